-- Lists of expressions that aren't empty.
use Rattle.std.proofs.Common.{◌≡◌, ◌≤◌, true, List, [], ◌∷◌, length, map, refl, arith}
use Rattle.expr_tree.specs.Plain.{expr_of, exprs_of}
use Rattle.expr_tree.specs.declared.tree.Expr.{Expr}
use Rattle.tree77.specs.FormWords.{are_some}

pub some_are : (xs : List Expr) → 1 ≤ length xs → true ≡ are_some (exprs_of (map expr_of xs))
some_are [] some = let none : ⊥ = omega (arith, some) in absurd none
some_are (x ∷ xs) some = refl
