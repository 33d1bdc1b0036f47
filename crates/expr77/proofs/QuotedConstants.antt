-- A character constant is read exactly where it is its value between apostrophes, with each apostrophe in it doubled.
use Rattle.std.proofs.Common.{◌≡◌, ◌≢◌, ℕ, Bool, true, false, ◌==◌, List, [], ◌∷◌, ◌++◌, Some, refl, sym, ap, ◌∙◌}
use Rattle.std.specs.Prelude.{if◌then◌else◌}
use Rattle.std.specs.Option.{option_and_then}
use Rattle.std.proofs.lemmas.Bool.{eqb-true, eqb-false, ne_eqb}
use Rattle.text_base.specs.Formats.{doubled, quoted}
use Rattle.tree77.specs.Lexemes.{IsQuoted, quoted_nothing, quoted_other, quoted_apostrophe}
use Rattle.expr77.specs.LexemeReading.{unless_empty, quoted_value}
use Rattle.expr77.proofs.LexemeFound.{text_found}
use Rattle.expr77.proofs.LexemeOnly.{quoted_read, some_value}

-- what stands for a value is the value with its apostrophes doubled
is_doubled : (inside value : List ℕ) → IsQuoted inside value → inside ≡ doubled value
is_doubled inside value (quoted_nothing none nothing) = none ∙ ap doubled (sym nothing)
is_doubled inside value (quoted_other {more = more} {rest = rest} c is other inner v) =
    is ∙ ap (λ (x : List ℕ). c ∷ x) (is_doubled more rest inner)
    ∙ sym (ap (λ b. if b then 39 ∷ 39 ∷ doubled rest else c ∷ doubled rest) (ne_eqb c 39 other))
    ∙ ap doubled (sym v)
is_doubled inside value (quoted_apostrophe {more = more} {rest = rest} is inner v) = is ∙ ap (λ (x : List ℕ). 39 ∷ 39 ∷ x) (is_doubled more rest inner) ∙ ap doubled (sym v)

doubled_is : (value : List ℕ) → IsQuoted (doubled value) value
doubled_is [] = quoted_nothing refl refl
doubled_is (c ∷ t) = go (c == 39) refl (doubled_is t)
  where
    go : (b : Bool) → (c == 39) ≡ b → IsQuoted (doubled t) t → IsQuoted (if b then 39 ∷ 39 ∷ doubled t else c ∷ doubled t) (c ∷ t)
    go true is inner = quoted_apostrophe refl inner (ap (λ (n : ℕ). n ∷ t) (eqb-true c 39 is))
    go false is inner = quoted_other c refl (eqb-false c 39 is) inner refl

pub quoted_text_found : (text value : List ℕ) → quoted_value text ≡ Some value → (text ≡ quoted value) × (value ≢ [])
quoted_text_found text value e =
    let f = text_found text value e in
    (f.whole ∙ ap (λ (x : List ℕ). 39 ∷ (x ++ 39 ∷ [])) (is_doubled f.inside value f.is), f.some)

pub quoted_text_only : (value : List ℕ) → value ≢ [] → quoted_value (quoted value) ≡ Some value
quoted_text_only value some = ap (option_and_then unless_empty) (quoted_read (doubled value) value (doubled_is value)) ∙ some_value value some
