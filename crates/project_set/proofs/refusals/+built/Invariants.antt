use Rattle.std.proofs.Common.{◌≡◌, true, take}
use Rattle.std.specs.List.{list_all}
use Rattle.expr_tree.specs.Plain.{expr_of}
use Rattle.project_set.specs.Refusals.{is_built}
use Rattle.project_set.proofs.refusals.+built.Given as goal

abbrev pub invariant-are_built_exprs-loop-expr : goal.invariant-are_built_exprs-loop-expr
invariant-are_built_exprs-loop-expr l = list_all (λ x. is_built (expr_of x)) (take l.expr-index l.exprs) ≡ true
