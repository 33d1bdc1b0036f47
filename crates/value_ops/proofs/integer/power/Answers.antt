use Rattle.std.proofs.Common.{sym, ◌∙◌}
use Rattle.std.proofs.lemmas.Int.{to_z-of_z}
use Rattle.value_ops.proofs.Powers.{below_zero}
use Rattle.value_ops.proofs.integer.power.Goals as goal

pub returns-then-exponent-lt0 : goal.returns-then-exponent-lt0
returns-then-exponent-lt0 c =
    let e = c.reciprocal.ensures in
    let t = c.if-exponent-lt0.true in
    let f = c.ranges.base in
    let g = c.ranges.exponent in
    (simp to_z-of_z at e) ∙ sym (below_zero c.args.base c.args.exponent (simp to_z-of_z at t))
