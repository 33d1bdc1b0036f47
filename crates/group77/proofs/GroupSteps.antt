-- The operator at the front of symbols.
use Rattle.std.proofs.Common.{◌≡◌, Bool, true, false, ◌||◌, List, ◌∷◌, [], Option, Some, None, refl, ap, subst}
use Rattle.std.specs.Prelude.{if◌then◌else◌}
use Rattle.std.proofs.lemmas.Option.{same_Some}
use Rattle.text_base.specs.Trees.{BinaryOp}
use Rattle.tree77.specs.Expressions.{Symbol, operator}
use Rattle.group77.specs.Grouping.{behind_operator}

abbrev found_if : Bool → BinaryOp → List Symbol → Option (BinaryOp × List Symbol)
found_if b o t = if b then Some (o, t) else None

-- an operator that is found stands at the front and passes
pub operator_found : (test : BinaryOp → Bool) (t : List Symbol) (o : BinaryOp × List Symbol) → behind_operator test t ≡ Some o → (t ≡ operator o.0 ∷ o.1) × (test o.0 ≡ true)
operator_found test (operator c ∷ t) o h = go (test c) refl h
  where
    go : (b : Bool) → test c ≡ b → found_if b c t ≡ Some o → (operator c ∷ t ≡ operator o.0 ∷ o.1) × (test o.0 ≡ true)
    go true is e = subst (λ (q : BinaryOp × List Symbol). (operator c ∷ t ≡ operator q.0 ∷ q.1) × (test q.0 ≡ true)) (same_Some _ _ e) (refl, is)
    go false is e = absurd cc
operator_found test [] o h = absurd cc
operator_found test (s ∷ t) o h = absurd cc

-- an operator that passes is found
pub operator_stands : (test : BinaryOp → Bool) (o : BinaryOp) (t : List Symbol) → test o ≡ true → behind_operator test (operator o ∷ t) ≡ Some (o, t)
operator_stands test o t h = ap (λ b. found_if b o t) h

-- an operator that doesn't pass is not found
pub operator_fails : (test : BinaryOp → Bool) (o : BinaryOp) (t : List Symbol) → test o ≡ false → behind_operator test (operator o ∷ t) ≡ None
operator_fails test o t h = ap (λ b. found_if b o t) h

-- one test or the other
abbrev pub either : (BinaryOp → Bool) → (BinaryOp → Bool) → BinaryOp → Bool
either p q o = p o || q o

-- where neither test finds an operator, none of the two does
pub neither : (p q : BinaryOp → Bool) (t : List Symbol) → behind_operator (either p q) t ≡ None → (behind_operator p t ≡ None) × (behind_operator q t ≡ None)
neither p q (operator c ∷ t) h = go (p c) (q c) h
  where
    go : (a b : Bool) → found_if (a || b) c t ≡ None → (found_if a c t ≡ None) × (found_if b c t ≡ None)
    go true b e = absurd cc
    go false true e = absurd cc
    go false false e = (refl, refl)
neither p q [] h = (refl, refl)
neither p q (s ∷ t) h = (refl, refl)
