-- The value of a character constant, read one character after another.
use Rattle.std.proofs.Common.{◌≡◌, ℕ, Bool, true, false, ◌==◌, List, [], ◌∷◌, ◌++◌, Option, Some, None, refl, sym, ap, ◌∙◌, append_assoc}
use Rattle.std.specs.Prelude.{if◌then◌else◌}
use Rattle.std.specs.Option.{option_map}
use Rattle.std.proofs.lemmas.Bool.{eq-eqb, ne_eqb}
use Rattle.format77.specs.Reading.{undoubled, undoubled_from}
use Rattle.format77.specs.Parts.{with_value}

-- both ways of reading give the same
pub same_undoubled : (t : List ℕ) → undoubled_from true t ≡ undoubled t
same_undoubled [] = refl
same_undoubled (c ∷ []) = refl
same_undoubled (c ∷ d ∷ t) =
    ap (λ u. if c == 39 then (if d == 39 then option_map (λ v. 39 ∷ v) u else None) else option_map (λ v. c ∷ v) (undoubled_from true (d ∷ t))) (same_undoubled t)
    ∙ ap (λ u. if c == 39 then (if d == 39 then option_map (λ v. 39 ∷ v) (undoubled t) else None) else option_map (λ v. c ∷ v) u) (same_undoubled (d ∷ t))

-- one character more before the others
pushed : (value : List ℕ) (c : ℕ) (o : Option (List ℕ)) → with_value value (option_map (λ v. c ∷ v) o) ≡ with_value (value ++ c ∷ []) o
pushed value c None = refl
pushed value c (Some v) = ap Some (sym (append_assoc value (c ∷ []) v))

at : (value : List ℕ) (even : Bool) (c : ℕ) (t : List ℕ) (b : Bool) → (c == 39) ≡ b → with_value value (undoubled_from even (c ∷ t))
    ≡ with_value value (if b then (if even then undoubled_from false t else option_map (λ v. 39 ∷ v) (undoubled_from true t)) else (if even then option_map (λ v. c ∷ v) (undoubled_from true t) else None))
at value even c t b e = ap (λ x. with_value value (if x then (if even then undoubled_from false t else option_map (λ v. 39 ∷ v) (undoubled_from true t)) else (if even then option_map (λ v. c ∷ v) (undoubled_from true t) else None))) e

-- a first apostrophe
pub at_first : (value : List ℕ) (even : Bool) (c : ℕ) (t : List ℕ) → c ≡ 39 → even ≡ true → with_value value (undoubled_from even (c ∷ t)) ≡ with_value value (undoubled_from false t)
at_first value true c t e on = at value true c t true (eq-eqb c 39 e)
at_first value false c t e on = absurd cc

-- a second apostrophe
pub at_second : (value new : List ℕ) (even : Bool) (c : ℕ) (t : List ℕ) → c ≡ 39 → even ≡ false → new ≡ value ++ c ∷ [] → with_value value (undoubled_from even (c ∷ t)) ≡ with_value new (undoubled_from true t)
at_second value new true c t e off grown = absurd cc
at_second value new false c t e off grown =
    at value false c t true (eq-eqb c 39 e) ∙ pushed value 39 (undoubled_from true t) ∙ ap (λ x. with_value (value ++ x ∷ []) (undoubled_from true t)) (sym e) ∙ ap (λ x. with_value x (undoubled_from true t)) (sym grown)

-- another character
pub at_other : (value new : List ℕ) (even : Bool) (c : ℕ) (t : List ℕ) → (c ≡ 39 → ⊥) → even ≡ true → new ≡ value ++ c ∷ [] → with_value value (undoubled_from even (c ∷ t)) ≡ with_value new (undoubled_from true t)
at_other value new true c t e on grown = at value true c t false (ne_eqb c 39 e) ∙ pushed value c (undoubled_from true t) ∙ ap (λ x. with_value x (undoubled_from true t)) (sym grown)
at_other value new false c t e on grown = absurd cc

pub at_none : (value : List ℕ) (even : Bool) (c : ℕ) (t : List ℕ) → (c ≡ 39 → ⊥) → even ≡ false → with_value value (undoubled_from even (c ∷ t)) ≡ None
at_none value true c t e off = absurd cc
at_none value false c t e off = at value false c t false (ne_eqb c 39 e)

-- no characters before the others
pub nothing : (o : Option (List ℕ)) → with_value [] o ≡ o
nothing None = refl
nothing (Some v) = refl
