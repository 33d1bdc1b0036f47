-- A list of expressions is converted where each of them is.
use Rattle.std.proofs.Common.{◌≡◌, ◌&&◌, List, [], ◌∷◌, map, refl, ap}
use Rattle.std.specs.List.{list_all}
use Rattle.expr_tree.specs.Plain.{expr_of, exprs_of}
use Rattle.expr_tree.specs.declared.tree.Expr.{Expr}
use Rattle.project_set.specs.Refusals.{is_built, are_built}

pub built_each : (xs : List Expr) → are_built (exprs_of (map expr_of xs)) ≡ list_all (λ x. is_built (expr_of x)) xs
built_each [] = refl
built_each (x ∷ xs) = ap (λ b. is_built (expr_of x) && b) (built_each xs)
