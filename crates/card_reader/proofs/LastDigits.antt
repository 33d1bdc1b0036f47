-- The digits that stand last in a text, and the count of a scan that has read it.
use Rattle.std.proofs.Common.{◌≡◌, ℕ, ◌+◌, ◌*◌, ◌-◌, ◌≤◌, min, Bool, true, false, not, cond, ◌==◌, nat_le, List, [], ◌∷◌, ◌++◌, reverse, Option, Some, None, refl, ap, ◌∙◌, arith}
use Rattle.std.specs.Prelude.{if◌then◌else◌}
use Rattle.std.specs.List.{take_while}
use Rattle.std.specs.Char.{digit_value}
use Rattle.std.specs.Str.Parse.{digits_value}
use Rattle.std.proofs.lemmas.List.{reverse-append, append-nil}
use Rattle.std.proofs.lemmas.List.Elements.{filter-append}
use Rattle.std.proofs.lemmas.List.Sums.{take_while-cons}
use Rattle.std.proofs.lemmas.Grind.{reverse_onto}
use Rattle.std.proofs.lemmas.Int.Digits.{digits_value_push}
use Rattle.std.proofs.lemmas.Bool.{and_parts, leb-true}
use Rattle.std.proofs.lemmas.Str.{digit_value_digit}
use Rattle.text_base.specs.declared.limits.TheConstants.{GREATEST_COUNT}
use Rattle.text_base.specs.Chars.{is_digit, without_blanks}
use Rattle.text_base.specs.Kept.{last_digits, more_count}

-- ---- one more character

blank_or_not : (text : List ℕ) (c : ℕ) (b : Bool) → (c == 32) ≡ b → without_blanks (text ++ c ∷ []) ≡ without_blanks text ++ cond (not b) (c ∷ []) []
blank_or_not text c b e = filter-append (λ x. not (x == 32)) text (c ∷ []) ∙ ap (λ d. without_blanks text ++ cond (not d) (c ∷ []) []) e

-- a blank changes nothing
pub after_blank : (text : List ℕ) (c : ℕ) → (c == 32) ≡ true → last_digits (text ++ c ∷ []) ≡ last_digits text
after_blank text c e =
    let same : without_blanks (text ++ c ∷ []) ≡ without_blanks text = blank_or_not text c true e ∙ append-nil (without_blanks text) in
    ap (λ (xs : List ℕ). reverse (take_while is_digit (reverse xs))) same

-- another character is looked at first
behind : (text : List ℕ) (c : ℕ) (b : Bool) → (c == 32) ≡ false → is_digit c ≡ b
    → last_digits (text ++ c ∷ []) ≡ reverse (cond b (c ∷ take_while is_digit (reverse (without_blanks text))) [])
behind text c b e f =
    let onto : reverse (without_blanks (text ++ c ∷ [])) ≡ c ∷ reverse (without_blanks text) = ap reverse (blank_or_not text c false e) ∙ reverse-append (without_blanks text) (c ∷ []) in
    ap (λ (xs : List ℕ). reverse (take_while is_digit xs)) onto
    ∙ ap reverse (take_while-cons is_digit c (reverse (without_blanks text)))
    ∙ ap (λ d. reverse (cond d (c ∷ take_while is_digit (reverse (without_blanks text))) [])) f

-- a digit is one more
pub after_digit : (text : List ℕ) (c : ℕ) → (c == 32) ≡ false → is_digit c ≡ true → last_digits (text ++ c ∷ []) ≡ last_digits text ++ c ∷ []
after_digit text c e f = behind text c true e f ∙ reverse_onto (take_while is_digit (reverse (without_blanks text))) c []

-- behind any other character there is none
pub after_other : (text : List ℕ) (c : ℕ) → (c == 32) ≡ false → is_digit c ≡ false → last_digits (text ++ c ∷ []) ≡ []
after_other text c e f = behind text c false e f

-- ---- the count

-- the greatest count
abbrev pub most : ℕ
most = GREATEST_COUNT

-- the count that digits say
abbrev pub count_of : List ℕ → Option ℕ
count_of [] = None
count_of (d ∷ ds) = Some (min (digits_value 10 (d ∷ ds)) most)

-- the count after one more character of plain text, where that is no H that a count stands before
abbrev pub next_count : Option ℕ → ℕ → Option ℕ
next_count n c = if c == 32 then n else (if is_digit c then more_count n c else None)

pub digit_range : (c : ℕ) → is_digit c ≡ true → (48 ≤ c) × (c ≤ 57)
digit_range c e = let parts = and_parts (nat_le 48 c) (nat_le c 57) e in (leb-true 48 c parts.0, leb-true c 57 parts.1)

-- the value of a digit
pub value_of_digit : (c : ℕ) → is_digit c ≡ true → digit_value c + 48 ≡ c
value_of_digit c e = digit_value_digit c (digit_range c e)

-- the cap can come at each digit or at the end
capped : (n d : ℕ) → min (n * 10 + d) most ≡ min (10 * min n most + d) most
capped n d = omega arith

count_of_push : (ds : List ℕ) (c : ℕ) → is_digit c ≡ true → count_of (ds ++ c ∷ []) ≡ more_count (count_of ds) c
count_of_push [] c e =
    let value = value_of_digit c e in
    let range = digit_range c e in
    let same : min (0 + digit_value c) most ≡ c - 48 = omega (arith, value, range.1) in
    ap (λ (n : ℕ). Some n) same
count_of_push (d ∷ ds) c e =
    let value = value_of_digit c e in
    let digit : digit_value c ≡ c - 48 = omega (arith, value) in
    let same : min (digits_value 10 ((d ∷ ds) ++ c ∷ [])) most ≡ min (10 * min (digits_value 10 (d ∷ ds)) most + (c - 48)) most =
    ap (λ n. min n most) (digits_value_push 10 (d ∷ ds) c) ∙ capped (digits_value 10 (d ∷ ds)) (digit_value c) ∙ ap (λ v. min (10 * min (digits_value 10 (d ∷ ds)) most + v) most) digit in
    ap (λ (n : ℕ). Some n) same

pub count_step : (text : List ℕ) (c : ℕ) → count_of (last_digits (text ++ c ∷ [])) ≡ next_count (count_of (last_digits text)) c
count_step text c = go (c == 32) refl (is_digit c) refl
  where
    go : (b : Bool) → (c == 32) ≡ b → (d : Bool) → is_digit c ≡ d → count_of (last_digits (text ++ c ∷ [])) ≡ cond b (count_of (last_digits text)) (cond d (more_count (count_of (last_digits text)) c) None)
    go true e d f = ap count_of (after_blank text c e)
    go false e true f = ap count_of (after_digit text c e f) ∙ count_of_push (last_digits text) c f
    go false e false f = ap count_of (after_other text c e f)
