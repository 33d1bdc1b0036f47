use Rattle.std.proofs.Common.{ℕ, List, ◌++◌, ap, ◌∙◌}
use Rattle.free_printer.proofs.Arguments.{arguments_step}
use Rattle.free_printer.proofs.expression.+expression.Goals as goal

pub write_arguments-loop-place-preserved : goal.write_arguments-loop-place-preserved
write_arguments-loop-place-preserved t c =
    arguments_step c.as_slice-argument-items.result.now c.loop-place.place c.argument-item.result c.args.out.now c.loop-place.out c.extend.new.self c.write_expr.new.out
    c.argument-item.is c.loop-place-test.true c.loop-place.invariant
    (c.in_ok-extend.ensures.ok ∙ ap (λ (l : List ℕ). c.loop-place.out ++ l) c.separator.ensures) c.in_ok-write_expr.ensures
