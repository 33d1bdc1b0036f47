-- Digits that are read one after another, up to the limit.
use Rattle.std.proofs.Common.{◌≡◌, ℕ, ◌+◌, ◌*◌, ◌-◌, min, Bool, true, false, ◌&&◌, ◌||◌, List, [], ◌∷◌, Option, Some, None, refl, sym, ap, ◌∙◌, arith}
use Rattle.std.specs.Prelude.{if◌then◌else◌, nat_le}
use Rattle.std.specs.Char.{digit_value}
use Rattle.std.specs.List.{list_all}
use Rattle.std.specs.Str.Parse.{digits_value, digits_value_after}
use Rattle.std.proofs.lemmas.Bool.{and_parts, leb-true, leb-false}
use Rattle.std.proofs.lemmas.Str.{digit_value_digit}
use Rattle.text_base.specs.Chars.{is_digit}
use Rattle.text_base.specs.Pieces.{Piece, plain}
use Rattle.text_base.specs.Formats.{is_unsigned, GREATEST_IN_FORMAT}
use Rattle.format77.specs.Reading.{digits_here, behind_digits, is_written, number_of}
use Rattle.format77.specs.Parts.{number_by, LIMIT}
use Rattle.format77.specs.declared.number.Digits.{Digits}
use Rattle.format77.proofs.Digits.{digits_all}

-- what the digits behind stand for, where the value so far is kept up to the limit
abbrev pub limited_after : ℕ → List Piece → ℕ
limited_after n pieces = min (digits_value_after 10 n (digits_here pieces)) LIMIT

same_after : (a b : ℕ) (ds : List ℕ) → min a LIMIT ≡ min b LIMIT → min (digits_value_after 10 a ds) LIMIT ≡ min (digits_value_after 10 b ds) LIMIT
same_after a b [] e = e
same_after a b (c ∷ ds) e = same_after (a * 10 + digit_value c) (b * 10 + digit_value c) ds (omega (arith, e))

value_of_digit : (c : ℕ) → is_digit c ≡ true → digit_value c ≡ c - 48
value_of_digit c e =
    let parts = and_parts (nat_le 48 c) (nat_le c 57) e in
    let same = digit_value_digit c (leb-true 48 c parts.0, leb-true c 57 parts.1) in
    omega (arith, same)

-- one digit more
pub record OneDigit (pieces more : List Piece) (c : ℕ) : Type 0 where
  pub here : digits_here pieces ≡ c ∷ digits_here more
  pub behind : behind_digits pieces ≡ behind_digits more

pub one_digit : (pieces more : List Piece) (c : ℕ) → pieces ≡ plain c ∷ more → is_digit c ≡ true → OneDigit pieces more c
one_digit pieces more c e digit =
    record {
      here = ap digits_here e ∙ ap (λ b. if b then c ∷ digits_here more else []) digit;
      behind = ap behind_digits e ∙ ap (λ b. if b then behind_digits more else plain c ∷ more) digit;
    }

pub value_step : (n m c : ℕ) (pieces more : List Piece) → OneDigit pieces more c → is_digit c ≡ true → m ≡ min (n * 10 + (c - 48)) LIMIT → limited_after m more ≡ limited_after n pieces
value_step n m c pieces more one digit e =
    same_after m (n * 10 + digit_value c) (digits_here more) (let v = value_of_digit c digit in omega (arith, e, v)) ∙ ap (λ ds. min (digits_value_after 10 n ds) LIMIT) (sym one.here)

pub written_step : (w : Bool) (c : ℕ) (pieces more : List Piece) → OneDigit pieces more c → w || is_written (digits_here pieces) ≡ true
written_step true c pieces more one = refl
written_step false c pieces more one = ap is_written one.here

-- ---- the number

unsigned_written : (ds : List ℕ) → list_all is_digit ds ≡ true → is_unsigned ds ≡ is_written ds
unsigned_written [] all = refl
unsigned_written (c ∷ t) all = all

abbrev number_in : Bool → ℕ → ℕ → Option ℕ
number_in w least v = if w && (nat_le least v && nat_le v GREATEST_IN_FORMAT) then Some v else None

too_great : (w x : Bool) (v : ℕ) → (if w && (x && false) then Some v else None) ≡ None
too_great true true v = refl
too_great true false v = refl
too_great false x v = refl

limited : (w : Bool) (least v m : ℕ) → m ≡ min v LIMIT → number_in w least m ≡ number_in w least v
limited w least v m e = go (nat_le v GREATEST_IN_FORMAT) refl
  where
    go : (b : Bool) → nat_le v GREATEST_IN_FORMAT ≡ b → number_in w least m ≡ number_in w least v
    go true on = let le = leb-true v GREATEST_IN_FORMAT on in let same : m ≡ v = omega (arith, e, le) in ap (number_in w least) same
    go false off =
        let above = leb-false v GREATEST_IN_FORMAT off in
        let most : m ≡ LIMIT = omega (arith, e, above) in
        ap (number_in w least) most ∙ too_great w (nat_le least LIMIT) LIMIT ∙ sym (too_great w (nat_le least v) v) ∙ ap (λ b. if w && (nat_le least v && b) then Some v else None) (sym off)

pub same_number : (least : ℕ) (n : Digits) (pieces : List Piece) → n.is_written ≡ is_written (digits_here pieces) → n.value ≡ min (digits_value 10 (digits_here pieces)) LIMIT → number_by least n ≡ number_of least (digits_here pieces)
same_number least n pieces w e =
    let ds = digits_here pieces in
    ap (λ b. number_in b least n.value) (w ∙ sym (unsigned_written ds (digits_all pieces))) ∙ limited (is_unsigned ds) least (digits_value 10 ds) n.value e
