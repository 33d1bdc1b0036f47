-- The types of a list of expressions are those of its items.
use Rattle.std.proofs.Common.{◌≡◌, List, [], ◌∷◌, map, length, refl, ap}
use Rattle.std.specs.Prelude.{◌&&◌, suc}
use Rattle.std.specs.List.{list_all}
use Rattle.text_base.specs.Values.{Kind}
use Rattle.expr_tree.specs.Plain.{expr_of, exprs_of}
use Rattle.expr_tree.specs.declared.tree.Expr.{Expr}
use Rattle.names77.specs.Known.{Known}
use Rattle.implicit_types.specs.Operands.{may_be, may_all_be, kind_of, kinds_of}

pub kinds_count : (k : Known) (xs : List Expr) → length (kinds_of k (exprs_of (map expr_of xs))) ≡ length xs
kinds_count k [] = refl
kinds_count k (x ∷ xs) = ap suc (kinds_count k xs)

pub kinds_each : (k : Known) (kind : Kind) (xs : List Expr)
    → may_all_be kind (kinds_of k (exprs_of (map expr_of xs))) ≡ list_all (λ x. may_be (kind_of k (expr_of x)) kind) xs
kinds_each k kind [] = refl
kinds_each k kind (x ∷ xs) = ap (λ b. may_be (kind_of k (expr_of x)) kind && b) (kinds_each k kind xs)

pub ruleset arguments = (kinds_count, kinds_each)
