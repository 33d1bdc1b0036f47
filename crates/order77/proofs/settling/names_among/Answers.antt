use Rattle.std.proofs.Common.{map}
use Rattle.expr_tree.specs.Plain.{expr_of, exprs_of}
use Rattle.order77.specs.Settling.{names_among}
use Rattle.order77.proofs.SettlingLemmas.{popped}
use Rattle.order77.proofs.settling.names_among.Goals as goal

pub loop-expr-preserved : goal.loop-expr-preserved
loop-expr-preserved c =
    popped (names_among (exprs_of (map expr_of c.args.exprs))) c.loop-expr.exprs c.pop.new.self c.in-Some.expr c.loop-expr.names.items c.add_name.new.names.items
    c.loop-expr.invariant c.in-Some.ensures c.in_ok-add_name.ensures
