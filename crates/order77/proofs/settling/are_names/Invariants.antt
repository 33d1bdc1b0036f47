use Rattle.std.proofs.Common.{◌≡◌, drop}
use Rattle.order77.proofs.SettlingLemmas.{all_names}
use Rattle.order77.proofs.settling.are_names.Given as goal

abbrev pub invariant-loop-expr : goal.invariant-loop-expr
invariant-loop-expr l = all_names (drop l.expr-index l.exprs) ≡ all_names l.exprs
