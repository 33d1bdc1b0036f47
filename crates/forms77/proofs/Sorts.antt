-- What stands first, by pieces and by tokens, and what forms begin with.
use Rattle.std.proofs.Common.{◌≡◌, ◌⊎◌, inl, inr, ℕ, Bool, true, false, not, ◌||◌, ◌==◌, List, [], ◌∷◌, refl, sym, ap, ◌∙◌}
use Rattle.std.specs.Prelude.{if◌then◌else◌}
use Rattle.std.specs.List.{list_all}
use Rattle.std.proofs.lemmas.Bool.{and_parts, or_cases, eqb-true, false_from_ne_true}
use Rattle.text_base.specs.Chars.{is_upper, is_digit, is_name_byte}
use Rattle.text_base.specs.Pieces.{Piece, plain, whole, broken}
use Rattle.text_base.proofs.CharTests.{digit_is_no_letter}
use Rattle.tree77.specs.Tokens.{Token, is_mark, StopsAt, IsCut, cut_nothing, cut_run, cut_digits, cut_text, cut_mark}
use Rattle.forms77.proofs.Marks.{each_mark, mark_is_not_digit}
use Rattle.tree77.specs.Forms.{sort_of, first_sort, is_in}
use Rattle.forms77.specs.Goodness.{sorts, implies}
use Rattle.forms77.specs.Reading.{next_sort}

-- ---- the sorts of characters

pub digit_is_not_upper : (c : ℕ) → is_digit c ≡ true → is_upper c ≡ false
digit_is_not_upper c digit = false_from_ne_true (is_upper c) (digit_is_no_letter c digit)

pub mark_is_not_upper : (c : ℕ) → is_mark c ≡ true → is_upper c ≡ false
mark_is_not_upper c = each_mark is_upper c refl refl refl refl refl refl refl refl refl refl

-- `sort_of` by what its tests answer
abbrev sort_by : ℕ → Bool → Bool → Bool → ℕ
sort_by c upper digit marks = if upper then 65 else (if digit then 48 else (if marks then c else 1))

pub letter_sort : (c : ℕ) → is_upper c ≡ true → sort_of c ≡ 65
letter_sort c is = ap (λ b. sort_by c b (is_digit c) (is_mark c)) is

pub digit_sort : (c : ℕ) → is_digit c ≡ true → sort_of c ≡ 48
digit_sort c is = ap (λ b. sort_by c b (is_digit c) (is_mark c)) (digit_is_not_upper c is) ∙ ap (λ b. sort_by c false b (is_mark c)) is

pub mark_sort : (c : ℕ) → is_mark c ≡ true → sort_of c ≡ c
mark_sort c is =
    ap (λ b. sort_by c b (is_digit c) (is_mark c)) (mark_is_not_upper c is)
    ∙ ap (λ b. sort_by c false b (is_mark c)) (mark_is_not_digit c is)
    ∙ ap (sort_by c false false) is

-- the tokens begin with what the pieces begin with
pub next_is_first : (pieces : List Piece) (ts : List Token) → IsCut pieces ts → next_sort ts ≡ first_sort pieces
next_is_first pieces ts (cut_nothing none end) = ap next_sort end ∙ ap first_sort (sym none)
next_is_first pieces ts (cut_run c u front upper all stop follows is) = ap next_sort is ∙ sym (letter_sort c upper) ∙ ap first_sort (sym front)
next_is_first pieces ts (cut_digits c u front digit all stop follows is) = ap next_sort is ∙ sym (digit_sort c digit) ∙ ap first_sort (sym front)
next_is_first pieces ts (cut_text t front follows is) = ap next_sort is ∙ ap first_sort (sym front)
next_is_first pieces ts (cut_mark c front marks follows is) = ap next_sort is ∙ sym (mark_sort c marks) ∙ ap first_sort (sym front)

-- ---- what holds of each sort

-- what holds of each of some numbers holds of one of them
pub of_each : (test : ℕ → Bool) (ks : List ℕ) (k : ℕ) → list_all test ks ≡ true → is_in ks k ≡ true → test k ≡ true
of_each test [] k all is = absurd cc
of_each test (n ∷ ks) k all is =
    let parts = and_parts (test n) (list_all test ks) all in
    go parts.0 (of_each test ks k parts.1) (or_cases (k == n) (is_in ks k) is)
  where
    go : test n ≡ true → (is_in ks k ≡ true → test k ≡ true) → (k == n ≡ true) ⊎ (is_in ks k ≡ true) → test k ≡ true
    go here more (inl e) = ap test (eqb-true k n e) ∙ here
    go here more (inr e) = more e

not_false : (b : Bool) → not b ≡ false → b ≡ true
not_false true e = refl
not_false false e = absurd cc

-- what holds of each sort holds of what stands first
pub each_sort : (test : ℕ → Bool) → list_all test sorts ≡ true → (v : List Piece) → test (first_sort v) ≡ true
each_sort test all v = of_each test sorts (first_sort v) all (known v)
  where
    known_mark : (c : ℕ) → is_mark c ≡ true → is_in sorts c ≡ true
    known_mark c is = not_false (is_in sorts c) (each_mark (λ k. not (is_in sorts k)) c refl refl refl refl refl refl refl refl refl refl is)

    known_character : (c : ℕ) (upper digit marked : Bool) → is_mark c ≡ marked → is_in sorts (sort_by c upper digit marked) ≡ true
    known_character c true digit marked is = refl
    known_character c false true marked is = refl
    known_character c false false true is = known_mark c is
    known_character c false false false is = refl

    known : (v : List Piece) → is_in sorts (first_sort v) ≡ true
    known [] = refl
    known (plain c ∷ rest) = known_character c (is_upper c) (is_digit c) (is_mark c) refl
    known (whole t ∷ rest) = refl
    known (broken t ∷ rest) = refl

-- one test implies another of what stands first
pub implied : (a b : ℕ → Bool) → implies a b ≡ true → (v : List Piece) → a (first_sort v) ≡ true → b (first_sort v) ≡ true
implied a b all v is = go (a (first_sort v)) (b (first_sort v)) is (each_sort (λ k. not (a k) || b k) all v)
  where
    go : (x y : Bool) → x ≡ true → (not x || y) ≡ true → y ≡ true
    go true y is or = or
    go false y is or = absurd cc

-- ---- what ends a name or digits

-- a letter, a digit or a character that begins nothing
abbrev pub is_in_name : ℕ → Bool
is_in_name = is_in (65 ∷ 48 ∷ 1 ∷ [])

pub ends_name : (v : List Piece) → not (is_in_name (first_sort v)) ≡ true → StopsAt is_name_byte v
ends_name [] is = tt
ends_name (whole t ∷ rest) is = tt
ends_name (broken t ∷ rest) is = tt
ends_name (plain c ∷ rest) is = go (is_upper c) (is_digit c) (is_mark c) refl is
  where
    go : (upper digit marked : Bool) → is_mark c ≡ marked → not (is_in_name (sort_by c upper digit marked)) ≡ true → is_name_byte c ≡ false
    go true digit marked m is = absurd cc
    go false true marked m is = absurd cc
    go false false true m is = each_mark is_name_byte c refl refl refl refl refl refl refl refl refl refl m
    go false false false m is = absurd cc

pub ends_digits : (v : List Piece) → not (first_sort v == 48) ≡ true → StopsAt is_digit v
ends_digits [] is = tt
ends_digits (whole t ∷ rest) is = tt
ends_digits (broken t ∷ rest) is = tt
ends_digits (plain c ∷ rest) is = go (is_digit c) refl
  where
    go : (b : Bool) → is_digit c ≡ b → is_digit c ≡ false
    go false d = d
    go true d = let e : not (48 == 48) ≡ true = ap (λ k. not (k == 48)) (sym (digit_sort c d)) ∙ is in absurd cc
