-- Tests of characters, and of texts by their characters.
use Rattle.std.proofs.Common.{◌≡◌, ℕ, ◌==◌, Bool, true, ◌||◌, List, [], ◌∷◌, ◌++◌, refl, ap, arith}
use Rattle.std.specs.Prelude.{nat_le}
use Rattle.std.specs.List.{list_all}
use Rattle.std.specs.Str.{bytes_eq}
use Rattle.std.proofs.lemmas.Bool.{and_parts, and_from, leb-true, or_left, or_right}
use Rattle.std.proofs.lemmas.Slice.Eq.{bytes_eq-Decides}
use Rattle.text_base.specs.Chars.{is_upper, is_digit, is_name_byte}

-- the test of bytes holds of equal ones alone
pub same_bytes : (a b : List ℕ) → bytes_eq a b ≡ true → a ≡ b
same_bytes a b e = grind (arith, bytes_eq-Decides)

-- what holds of each character of two texts, or of each item of two lists, holds of each of both together
pub all_append : {A : Type 0} (p : A → Bool) (x y : List A) → list_all p x ≡ true → list_all p y ≡ true → list_all p (x ++ y) ≡ true
all_append p [] y e f = f
all_append p (c ∷ x) y e f = let parts = and_parts (p c) (list_all p x) e in and_from (p c) (list_all p (x ++ y)) parts.0 (all_append p x y parts.1 f)

-- a digit is no letter
pub digit_is_no_letter : (c : ℕ) → is_digit c ≡ true → is_upper c ≡ true → ⊥
digit_is_no_letter c digit upper =
    let low = leb-true c 57 (and_parts (nat_le 48 c) (nat_le c 57) digit).1 in
    let high = leb-true 65 c (and_parts (nat_le 65 c) (nat_le c 90) upper).0 in
    omega (arith, low, high)

-- a letter may stand in a name
pub letter_is_name_byte : (c : ℕ) → is_upper c ≡ true → is_name_byte c ≡ true
letter_is_name_byte c upper = ap (λ b. b || is_digit c || c == 95) upper

-- a digit may stand in a name
pub digit_is_name_byte : (c : ℕ) → is_digit c ≡ true → is_name_byte c ≡ true
digit_is_name_byte c digit = or_left (is_upper c || is_digit c) (c == 95) (or_right (is_upper c) (is_digit c) digit)

-- digits may stand in a name
pub digits_are_name_bytes : (u : List ℕ) → list_all is_digit u ≡ true → list_all is_name_byte u ≡ true
digits_are_name_bytes [] all = refl
digits_are_name_bytes (c ∷ u) all =
    let parts = and_parts (is_digit c) (list_all is_digit u) all in
    and_from (is_name_byte c) (list_all is_name_byte u) (digit_is_name_byte c parts.0) (digits_are_name_bytes u parts.1)
