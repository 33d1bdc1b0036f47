-- Assignments whose parts have types: all variables are integers.
use Rattle.std.proofs.Common.{◌≡◌, ℕ, true, List, Option, Some, None, refl, sym, ◌∙◌}
use Rattle.text_base.specs.Trees.{Expr, name, assign}
use Rattle.text_base.specs.Values.{Value, Kind, integers, logicals, characters, kind_of, no_meaning}
use Rattle.text_base.specs.ExpressionKinds.{kind_of_expr, are_same, is_typed_action}
use Rattle.text_base.specs.Runs.{fault, gives, over}
use Rattle.text_base.specs.Evaluation.{Storage, Call, eval}
use Rattle.text_base.specs.declared.refusal.Place.{Place}
use Rattle.definition_laws.proofs.Typed.{typed_meaning}

same_kind : (o r : Option Kind) → ((k : Kind) → o ≡ Some k → k ≡ integers) → are_same o r ≡ true → r ≡ Some integers
same_kind (Some integers) (Some integers) only is = refl
same_kind (Some integers) (Some logicals) only is = absurd cc
same_kind (Some integers) (Some characters) only is = absurd cc
same_kind (Some logicals) r only is = let wrong : logicals ≡ integers = only logicals refl in absurd cc
same_kind (Some characters) r only is = let wrong : characters ≡ integers = only characters refl in absurd cc
same_kind (Some integers) None only is = absurd cc
same_kind None r only is = absurd cc

module _ {W : Type 0} (storage : Storage W) (kinds : List ℕ → Option Kind)
    (integers_read : (w : W) (x : List ℕ) (v : Value) → storage.read w x ≡ Some v → kind_of v ≡ integers)
    (only : (x : List ℕ) (k : Kind) → kinds x ≡ Some k → k ≡ integers)
    (function : Call W) (here : Place) (y : List ℕ) (x : Expr) (typed : is_typed_action kinds (assign (name y) x) ≡ true) (n : ℕ) (w : W) where
  is_integer : kind_of_expr kinds x ≡ Some integers
  is_integer = same_kind (kinds y) (kind_of_expr kinds x) (only y) typed

  pub gives_integer : (m : ℕ) (u : W) (v : Value) → eval storage function here x n w ≡ gives m u v → kind_of v ≡ integers
  gives_integer = (typed_meaning W storage function here kinds x integers n w is_integer (λ z l v is e. integers_read w z v e ∙ sym (only z l is))).0

  pub means_something : (at : Place) → eval storage function here x n w ≡ over (fault at no_meaning) → ⊥
  means_something = (typed_meaning W storage function here kinds x integers n w is_integer (λ z l v is e. integers_read w z v e ∙ sym (only z l is))).1
