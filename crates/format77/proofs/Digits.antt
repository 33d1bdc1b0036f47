-- Digits and numbers that are read from pieces.
use Rattle.std.proofs.Common.{◌≡◌, ◌≢◌, inl, inr, ℕ, ◌≤◌, Bool, true, false, ◌&&◌, List, [], ◌∷◌, ◌++◌, map, Some, None, refl, sym, ap, ◌∙◌, subst}
use Rattle.std.specs.Prelude.{if◌then◌else◌, nat_le}
use Rattle.std.specs.List.{list_all}
use Rattle.std.specs.Str.Parse.{digits_value}
use Rattle.std.proofs.lemmas.Bool.{and_parts, and_from, leb-true, le-leb, and_left, and_right}
use Rattle.std.proofs.lemmas.Option.{same_Some}
use Rattle.text_base.specs.Chars.{is_digit}
use Rattle.text_base.specs.Pieces.{Piece, plain, whole, broken}
use Rattle.text_base.specs.Formats.{is_unsigned, GREATEST_IN_FORMAT, IsNumber, IsCount, is_digit_piece, begins_in_digit, ends_in_digit, IsUncut}
use Rattle.format77.specs.Reading.{digits_here, behind_digits, character_here, behind_one, number_of, count_of, is_at_digit}

-- the pieces of two texts, one after another
pub plain_append : (a b : List ℕ) (rest : List Piece) → map plain (a ++ b) ++ rest ≡ map plain a ++ (map plain b ++ rest)
plain_append [] b rest = refl
plain_append (c ∷ a) b rest = ap (λ (x : List Piece). plain c ∷ x) (plain_append a b rest)

-- the choice that a test makes
abbrev pub by_test : {A : Type 0} (P : A → Type 0) (b : Bool) (x y : A) → (b ≡ true → P x) → (b ≡ false → P y) → P (if b then x else y)
by_test P true x y f g = f refl
by_test P false x y f g = g refl

-- ---- digits

-- the digits that stand here, and what stands behind them
pub digits_split : (pieces : List Piece) → pieces ≡ map plain (digits_here pieces) ++ behind_digits pieces
digits_split [] = refl
digits_split (plain c ∷ rest) = go (is_digit c) (digits_split rest)
  where
    go : (b : Bool) → rest ≡ map plain (digits_here rest) ++ behind_digits rest → plain c ∷ rest ≡ map plain (if b then c ∷ digits_here rest else []) ++ (if b then behind_digits rest else plain c ∷ rest)
    go true e = ap (λ (x : List Piece). plain c ∷ x) e
    go false e = refl
digits_split (whole t ∷ rest) = refl
digits_split (broken t ∷ rest) = refl

pub digits_all : (pieces : List Piece) → list_all is_digit (digits_here pieces) ≡ true
digits_all [] = refl
digits_all (plain c ∷ rest) = by_test (λ ds. list_all is_digit ds ≡ true) (is_digit c) (c ∷ digits_here rest) [] (λ e. and_from (is_digit c) (list_all is_digit (digits_here rest)) e (digits_all rest)) (λ e. refl)
digits_all (whole t ∷ rest) = refl
digits_all (broken t ∷ rest) = refl

-- digits stand here where there is one at least
pub digits_there : (pieces : List Piece) → is_at_digit pieces ≡ true → is_unsigned (digits_here pieces) ≡ true
digits_there [] e = absurd cc
digits_there (plain c ∷ rest) e =
    by_test (λ b. is_digit c ≡ true → is_unsigned b ≡ true) (is_digit c) (c ∷ digits_here rest) []
    (λ f g. and_from (is_digit c) (list_all is_digit (digits_here rest)) f (digits_all rest)) (λ f g. absurd cc) e
digits_there (whole t ∷ rest) e = absurd cc
digits_there (broken t ∷ rest) e = absurd cc

-- digits end where none stands behind them
pub digits_found : (ds : List ℕ) (rest : List Piece) → list_all is_digit ds ≡ true → is_at_digit rest ≡ false → digits_here (map plain ds ++ rest) ≡ ds
digits_found [] [] all off = refl
digits_found [] (plain c ∷ rest) all off = ap (λ b. if b then c ∷ digits_here rest else []) off
digits_found [] (whole t ∷ rest) all off = refl
digits_found [] (broken t ∷ rest) all off = refl
digits_found (c ∷ ds) rest all off =
    let parts = and_parts (is_digit c) (list_all is_digit ds) all in
    ap (λ b. if b then c ∷ digits_here (map plain ds ++ rest) else []) parts.0 ∙ ap (λ t. c ∷ t) (digits_found ds rest parts.1 off)

pub digits_left : (ds : List ℕ) (rest : List Piece) → list_all is_digit ds ≡ true → is_at_digit rest ≡ false → behind_digits (map plain ds ++ rest) ≡ rest
digits_left [] [] all off = refl
digits_left [] (plain c ∷ rest) all off = ap (λ b. if b then behind_digits rest else plain c ∷ rest) off
digits_left [] (whole t ∷ rest) all off = refl
digits_left [] (broken t ∷ rest) all off = refl
digits_left (c ∷ ds) rest all off =
    let parts = and_parts (is_digit c) (list_all is_digit ds) all in
    ap (λ b. if b then behind_digits (map plain ds ++ rest) else plain c ∷ (map plain ds ++ rest)) parts.0 ∙ digits_left ds rest parts.1 off

-- no digit stands behind digits
pub digits_end : (pieces : List Piece) → is_at_digit (behind_digits pieces) ≡ false
digits_end [] = refl
digits_end (plain c ∷ rest) = by_test (λ ps. is_at_digit ps ≡ false) (is_digit c) (behind_digits rest) (plain c ∷ rest) (λ on. digits_end rest) (λ off. off)
digits_end (whole t ∷ rest) = refl
digits_end (broken t ∷ rest) = refl

-- ---- where numbers are not cut

pub same_start : (pieces : List Piece) → begins_in_digit pieces ≡ is_at_digit pieces
same_start [] = refl
same_start (plain c ∷ rest) = refl
same_start (whole t ∷ rest) = refl
same_start (broken t ∷ rest) = refl

last_piece : (front : List Piece) (p : Piece) → ends_in_digit (front ++ p ∷ []) ≡ is_digit_piece p
last_piece [] p = refl
last_piece (q ∷ []) p = refl
last_piece (q ∷ r ∷ front) p = last_piece (r ∷ front) p

-- behind a piece that is no digit
pub uncut_behind : (front : List Piece) (p : Piece) (rest : List Piece) → is_digit_piece p ≡ false → IsUncut (front ++ p ∷ []) rest
uncut_behind front p rest off = record { apart = and_left (ends_in_digit (front ++ p ∷ [])) (begins_in_digit rest) (last_piece front p ∙ off) }

-- before a piece that is no digit
pub uncut_before : (first rest : List Piece) → is_at_digit rest ≡ false → IsUncut first rest
uncut_before first rest off = record { apart = and_right (ends_in_digit first) (begins_in_digit rest) (same_start rest ∙ off) }

-- behind a character that is no digit
pub uncut_character : (a : List ℕ) (c : ℕ) (rest : List Piece) → is_digit c ≡ false → IsUncut (map plain (a ++ c ∷ [])) rest
uncut_character a c rest off = subst (λ p. IsUncut p rest) (sym (plain_end a)) (uncut_behind (map plain a) (plain c) rest off)
  where
    plain_end : (b : List ℕ) → map plain (b ++ c ∷ []) ≡ map plain b ++ plain c ∷ []
    plain_end [] = refl
    plain_end (d ∷ b) = ap (λ (x : List Piece). plain d ∷ x) (plain_end b)

-- the character that stands here, if it isn't 0
pub character_split : (pieces : List Piece) (c : ℕ) → character_here pieces ≡ c → c ≢ 0 → pieces ≡ plain c ∷ behind_one pieces
character_split [] c e off = absurd (off (sym e))
character_split (plain d ∷ rest) c e off = ap (λ x. plain x ∷ rest) e
character_split (whole t ∷ rest) c e off = absurd (off (sym e))
character_split (broken t ∷ rest) c e off = absurd (off (sym e))

-- ---- numbers

pub number_is : (least : ℕ) (ds : List ℕ) (n : ℕ) → number_of least ds ≡ Some n → IsNumber least ds n
number_is least ds n = by_test (λ o. o ≡ Some n → IsNumber least ds n) _ (Some (digits_value 10 ds)) None found (λ off e. absurd cc)
  where
    found : (is_unsigned ds && (nat_le least (digits_value 10 ds) && nat_le (digits_value 10 ds) GREATEST_IN_FORMAT)) ≡ true → Some (digits_value 10 ds) ≡ Some n → IsNumber least ds n
    found on e =
        let first = and_parts (is_unsigned ds) _ on in
        let bounds = and_parts (nat_le least (digits_value 10 ds)) (nat_le (digits_value 10 ds) GREATEST_IN_FORMAT) first.1 in
        let same : digits_value 10 ds ≡ n = same_Some _ _ e in
        record {
          numeric = first.0;
          value = sym same;
          from = subst (λ m. least ≤ m) same (leb-true least (digits_value 10 ds) bounds.0);
          to = subst (λ m. m ≤ GREATEST_IN_FORMAT) same (leb-true (digits_value 10 ds) GREATEST_IN_FORMAT bounds.1);
        }

pub number_found : (least : ℕ) (ds : List ℕ) (n : ℕ) → IsNumber least ds n → number_of least ds ≡ Some n
number_found least ds n h =
    let low : nat_le least (digits_value 10 ds) ≡ true = le-leb least (digits_value 10 ds) (subst (λ m. least ≤ m) h.value h.from) in
    let high : nat_le (digits_value 10 ds) GREATEST_IN_FORMAT ≡ true = le-leb (digits_value 10 ds) GREATEST_IN_FORMAT (subst (λ m. m ≤ GREATEST_IN_FORMAT) h.value h.to) in
    ap (λ b. if b then Some (digits_value 10 ds) else None) (and_from (is_unsigned ds) _ h.numeric (and_from _ _ low high)) ∙ ap Some (sym h.value)

pub count_is : (ds : List ℕ) (n : ℕ) → count_of ds ≡ Some n → IsCount ds n
count_is [] n e = inl (refl, sym (same_Some _ _ e))
count_is (c ∷ t) n e = inr (number_is 1 (c ∷ t) n e)

pub count_found : (ds : List ℕ) (n : ℕ) → IsCount ds n → count_of ds ≡ Some n
count_found ds n (inl h) = ap count_of h.0 ∙ ap Some (sym h.1)
count_found [] n (inr h) = absurd cc
count_found (c ∷ t) n (inr h) = number_found 1 (c ∷ t) n h

-- the digits of a number, and those of a count
pub number_digits : (least : ℕ) (ds : List ℕ) (n : ℕ) → IsNumber least ds n → list_all is_digit ds ≡ true
number_digits least [] n h = refl
number_digits least (c ∷ t) n h = h.numeric

pub count_digits : (ds : List ℕ) (n : ℕ) → IsCount ds n → list_all is_digit ds ≡ true
count_digits ds n (inl h) = ap (list_all is_digit) h.0
count_digits ds n (inr h) = number_digits 1 ds n h
