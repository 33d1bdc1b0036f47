-- What a value is assigned to.
use Rattle.std.proofs.Common.{◌≡◌, ◌∙◌, ℕ, List, [], ◌∷◌, Some, map, refl, ap}
use Rattle.expr_tree.specs.Plain.{expr_of, exprs_of}
use Rattle.expr_tree.specs.declared.tree.Expr.{Expr}
use Rattle.expr_tree.specs.declared.tree.Expr.TheVariants.{Call}
use Rattle.expr_tree.proofs.Equations.{expr_call}
use Rattle.text_base.specs.Trees as tree
use Rattle.tree77.specs.ControlForms.{assigned}
use Rattle.tree77.specs.Statements.{simple, assign}

-- it is an element or a reference with subscripts
subscripted : (f : List ℕ) (xs : List Expr) (v : tree.Expr) → (xs ≡ [] → ⊥) → Some (simple (assign (tree.call f (exprs_of (map expr_of xs))) v)) ≡ assigned (tree.call f (exprs_of (map expr_of xs))) v
subscripted f [] v some = absurd (some refl)
subscripted f (x ∷ xs) v some = refl

pub to_call : (f : List ℕ) (xs : List Expr) (v : tree.Expr) → (xs ≡ [] → ⊥) → Some (simple (assign (expr_of (Call f xs)) v)) ≡ assigned (tree.call f (exprs_of (map expr_of xs))) v
to_call f xs v some = ap (λ d. Some (simple (assign d v))) (expr_call f xs) ∙ subscripted f xs v some
