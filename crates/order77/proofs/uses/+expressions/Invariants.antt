use Rattle.std.proofs.Common.{◌≡◌, ◌++◌, map, take}
use Rattle.text_base.specs.Names.{exprs_names}
use Rattle.expr_tree.specs.Plain.{expr_of, exprs_of}
use Rattle.order77.specs.NameSets.{lent}
use Rattle.order77.proofs.uses.+expressions.Given as goal

abbrev pub invariant-exprs_uses-loop-expr : goal.invariant-exprs_uses-loop-expr
invariant-exprs_uses-loop-expr l = lent l.found ≡ lent l.fn.found ++ exprs_names (exprs_of (map expr_of (take l.expr-index l.exprs)))
