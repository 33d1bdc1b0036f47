-- The characters of numbers and words: letters, digits, underscores, points and signs.
use Rattle.std.proofs.Common.{◌≡◌, ◌⊎◌, inl, inr, ℕ, Bool, true, false, ◌||◌, ◌==◌, List, [], ◌∷◌, ◌++◌, refl, ap, ◌∙◌, arith}
use Rattle.std.specs.List.{list_all}
use Rattle.std.proofs.lemmas.Bool.{and_parts, and_from}
use Rattle.std.proofs.lemmas.Bool.Decides.{nat_tests}
use Rattle.std.proofs.lemmas.List.Folds.{list_all-append}
use Rattle.text_base.specs.Chars.{is_upper, is_digit, is_name_byte}
use Rattle.tree77.specs.Kinds.{is_word, is_number}
use Rattle.tree77.specs.Lexemes.{IsSign, IsExponent, IsReal, real_point, real_exponent, IsPart, IsHollerith, logical_text}

abbrev pub is_character : ℕ → Bool
is_character c = is_name_byte c || c == 46 || c == 43 || c == 45

letter_is_character : (c : ℕ) → is_upper c ≡ true → is_character c ≡ true
letter_is_character c is = grind (arith, nat_tests)

digit_is_character : (c : ℕ) → is_digit c ≡ true → is_character c ≡ true
digit_is_character c is = grind (arith, nat_tests)

name_byte_is_character : (c : ℕ) → is_name_byte c ≡ true → is_character c ≡ true
name_byte_is_character c is = grind (arith, nat_tests)

-- where each character passes a test, each passes a weaker one
pub all_more : (p q : ℕ → Bool) → ((c : ℕ) → p c ≡ true → q c ≡ true) → (u : List ℕ) → list_all p u ≡ true → list_all q u ≡ true
all_more p q step [] all = refl
all_more p q step (c ∷ u) all =
    let parts = and_parts (p c) (list_all p u) all in
    and_from (q c) (list_all q u) (step c parts.0) (all_more p q step u parts.1)

-- a text of such characters
abbrev pub AreCharacters : List ℕ → Type 0
AreCharacters u = list_all is_character u ≡ true

-- two such texts, one after the other
both_characters : (u v : List ℕ) → AreCharacters u → AreCharacters v → AreCharacters (u ++ v)
both_characters u v a b = list_all-append is_character u v ∙ and_from (list_all is_character u) (list_all is_character v) a b

-- digits are such a text
pub digits_characters : (u : List ℕ) → list_all is_digit u ≡ true → AreCharacters u
digits_characters u = all_more is_digit is_character digit_is_character u

-- so are letters, digits and underscores
name_bytes_characters : (u : List ℕ) → list_all is_name_byte u ≡ true → AreCharacters u
name_bytes_characters u = all_more is_name_byte is_character name_byte_is_character u

-- so is a number
pub number_characters : (u : List ℕ) → is_number u ≡ true → AreCharacters u
number_characters [] is = refl
number_characters (c ∷ u) is = digits_characters (c ∷ u) is

-- so is a name
pub word_characters : (u : List ℕ) → is_word u ≡ true → AreCharacters u
word_characters [] is = refl
word_characters (c ∷ u) is =
    let parts = and_parts (is_upper c) (list_all is_name_byte u) is in
    and_from (is_character c) (list_all is_character u) (letter_is_character c parts.0) (name_bytes_characters u parts.1)

-- so is a sign
sign_characters : (u : List ℕ) → IsSign u → AreCharacters u
sign_characters u (inl is) = ap (list_all is_character) is
sign_characters u (inr (inl is)) = ap (list_all is_character) is
sign_characters u (inr (inr is)) = ap (list_all is_character) is

-- E and D are neither
exponent_letter : (c : ℕ) → (c ≡ 69) ⊎ (c ≡ 68) → is_character c ≡ true
exponent_letter c (inl is) = ap is_character is
exponent_letter c (inr is) = ap is_character is

-- an exponent is such a text
exponent_characters : (u : List ℕ) → IsExponent u → AreCharacters u
exponent_characters u e =
    ap (list_all is_character) e.whole
    ∙ and_from (is_character e.letter) (list_all is_character (e.sign ++ e.digits)) (exponent_letter e.letter e.lettered)
    (both_characters e.sign e.digits (sign_characters e.sign e.signed) (number_characters e.digits e.numbered))

-- so is one that may be missing
maybe_exponent : (u : List ℕ) → (u ≡ []) ⊎ IsExponent u → AreCharacters u
maybe_exponent u (inl is) = ap (list_all is_character) is
maybe_exponent u (inr is) = exponent_characters u is

-- so is a real constant
pub real_characters : (u : List ℕ) → IsReal u → AreCharacters u
real_characters u (real_point before after exponent is left right some ends) =
    ap (list_all is_character) is
    ∙ both_characters before (46 ∷ (after ++ exponent)) (digits_characters before left) (both_characters after exponent (digits_characters after right) (maybe_exponent exponent ends))
real_characters u (real_exponent before exponent is left ends) = ap (list_all is_character) is ∙ both_characters before exponent (number_characters before left) (exponent_characters exponent ends)

-- so is an integer or a real constant
numeric_characters : (u : List ℕ) → (is_number u ≡ true) ⊎ IsReal u → AreCharacters u
numeric_characters u (inl is) = number_characters u is
numeric_characters u (inr is) = real_characters u is

-- so is a part of a complex constant
pub part_characters : (u : List ℕ) → IsPart u → AreCharacters u
part_characters u p = ap (list_all is_character) p.whole ∙ both_characters p.sign p.number (sign_characters p.sign p.signed) (numeric_characters p.number p.numeric)

-- so is a Hollerith constant
pub hollerith_characters : (u : List ℕ) → IsHollerith u → AreCharacters u
hollerith_characters u h = ap (list_all is_character) h.whole ∙ both_characters h.count (72 ∷ h.kept) (number_characters h.count h.numbered) (name_bytes_characters h.kept h.word)

-- so is a logical constant
pub logical_characters : (b : Bool) → AreCharacters (logical_text b)
logical_characters true = refl
logical_characters false = refl
