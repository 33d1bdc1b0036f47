-- The numbers behind the letters of a refused descriptor: what is read is what they may be.
use Rattle.std.proofs.Common.{◌≡◌, ◌≢◌, ◌⊎◌, inl, inr, ℕ, Bool, true, false, not, ◌&&◌, ◌||◌, ◌==◌, List, [], ◌∷◌, ◌++◌, map, refl, sym, ap, ◌∙◌, append-nil}
use Rattle.std.proofs.lemmas.Bool.{and_parts, or_cases, eqb-true}
use Rattle.text_base.specs.Pieces.{Piece, plain}
use Rattle.text_base.specs.Formats.{is_unsigned, IsWidths, widths_none, widths_width, widths_point, widths_exponent}
use Rattle.format77.specs.Reading.{digits_here, behind_digits, character_here, behind_one, is_at_digit, wants_number, behind_exponent, behind_fraction, behind_widths, behind_second}
use Rattle.format77.proofs.Digits.{plain_append, by_test, digits_split, digits_there, digits_end, character_split}

-- characters of this form stand here, and this is left behind them
pub record Behind (W : List ℕ → Type 0) (pieces left : List Piece) : Type 0 where
  pub text : List ℕ
  pub whole : pieces ≡ map plain text ++ left
  pub is : W text

-- the pieces of two texts and a character between them
pub joined : (a : List ℕ) (c : ℕ) (b : List ℕ) (rest left : List Piece) → rest ≡ map plain b ++ left → map plain a ++ plain c ∷ rest ≡ map plain (a ++ c ∷ b) ++ left
joined a c b rest left e = ap (λ r. map plain a ++ plain c ∷ r) e ∙ sym (plain_append a (c ∷ b) left)

abbrev nothing_here : (W : List ℕ → Type 0) (pieces : List Piece) → W [] → Behind W pieces pieces
nothing_here W pieces w = record { text = []; whole = refl; is = w }

-- ---- E and digits

pub record IsLettered (text : List ℕ) : Type 0 where
  pub digits : List ℕ
  pub whole : text ≡ 69 ∷ digits
  pub numeric : is_unsigned digits ≡ true

abbrev pub IsExponent : List ℕ → Type 0
IsExponent text = (text ≡ []) ⊎ IsLettered text

exponent_is : (free : Bool) (pieces : List Piece) → Behind IsExponent pieces (behind_exponent free pieces)
exponent_is free pieces = by_test (Behind IsExponent pieces) _ (behind_digits (behind_one pieces)) pieces found (λ off. nothing_here IsExponent pieces (inl refl))
  where
    found : (character_here pieces == 69 && (is_at_digit (behind_one pieces) && not (free && character_here (behind_digits (behind_one pieces)) == 46))) ≡ true → Behind IsExponent pieces (behind_digits (behind_one pieces))
    found on =
        let first = and_parts (character_here pieces == 69) _ on in
        let second = and_parts (is_at_digit (behind_one pieces)) _ first.1 in
        record {
          text = 69 ∷ digits_here (behind_one pieces);
          whole = character_split pieces 69 (eqb-true _ 69 first.0) (λ e. absurd cc) ∙ ap (λ (r : List Piece). plain 69 ∷ r) (digits_split (behind_one pieces));
          is = inr (record { digits = digits_here (behind_one pieces); whole = refl; numeric = digits_there (behind_one pieces) second.0 });
        }

-- ---- a point and digits

pub record IsPointed (text : List ℕ) : Type 0 where
  pub digits : List ℕ
  pub exponent : List ℕ
  pub whole : text ≡ 46 ∷ (digits ++ exponent)
  pub numeric : is_unsigned digits ≡ true
  pub is : IsExponent exponent

abbrev pub IsFraction : List ℕ → Type 0
IsFraction text = (text ≡ []) ⊎ IsPointed text

fraction_is : (free : Bool) (pieces : List Piece) → Behind IsFraction pieces (behind_fraction free pieces)
fraction_is free pieces = by_test (Behind IsFraction pieces) _ (behind_exponent free (behind_digits (behind_one pieces))) pieces found (λ off. nothing_here IsFraction pieces (inl refl))
  where
    found : (character_here pieces == 46 && is_at_digit (behind_one pieces)) ≡ true → Behind IsFraction pieces (behind_exponent free (behind_digits (behind_one pieces)))
    found on =
        let parts = and_parts (character_here pieces == 46) (is_at_digit (behind_one pieces)) on in
        let x = exponent_is free (behind_digits (behind_one pieces)) in
        let ds = digits_here (behind_one pieces) in
        let left = behind_exponent free (behind_digits (behind_one pieces)) in
        record {
          text = 46 ∷ (ds ++ x.text);
          whole = character_split pieces 46 (eqb-true _ 46 parts.0) (λ e. absurd cc)
              ∙ ap (λ (r : List Piece). plain 46 ∷ r) (digits_split (behind_one pieces) ∙ ap (λ r. map plain ds ++ r) x.whole ∙ sym (plain_append ds x.text left));
          is = inr (record { digits = ds; exponent = x.text; whole = refl; numeric = digits_there (behind_one pieces) parts.1; is = x.is });
        }

-- ---- all of them

widths_of : (ds f : List ℕ) → is_unsigned ds ≡ true → IsFraction f → IsWidths (ds ++ f)
widths_of ds f on (inl e) = widths_width (ap (λ g. is_unsigned (ds ++ g)) e ∙ ap is_unsigned (append-nil ds) ∙ on)
widths_of ds f on (inr p) = by_exponent p.is
  where
    by_exponent : IsExponent p.exponent → IsWidths (ds ++ f)
    by_exponent (inl e) = widths_point ds p.digits (ap (λ g. ds ++ g) (p.whole ∙ ap (λ x. 46 ∷ (p.digits ++ x)) e ∙ ap (λ x. 46 ∷ x) (append-nil p.digits))) on p.numeric
    by_exponent (inr x) = widths_exponent ds p.digits x.digits (ap (λ g. ds ++ g) (p.whole ∙ ap (λ y. 46 ∷ (p.digits ++ y)) x.whole)) on p.numeric x.numeric

-- numbers stand here and this is left behind them, or none stand here
pub record Sized (pieces left : List Piece) : Type 0 where
  pub read : Behind IsWidths pieces left
  pub stops : (read.text ≡ []) ⊎ (is_at_digit left ≡ false)

exponent_stops : (free : Bool) (pieces : List Piece) → is_at_digit pieces ≡ false → is_at_digit (behind_exponent free pieces) ≡ false
exponent_stops free pieces off = by_test (λ ps. is_at_digit ps ≡ false) (character_here pieces == 69 && (is_at_digit (behind_one pieces) && not (free && character_here (behind_digits (behind_one pieces)) == 46))) (behind_digits (behind_one pieces)) pieces (λ on. digits_end (behind_one pieces)) (λ e. off)

fraction_stops : (free : Bool) (pieces : List Piece) → is_at_digit pieces ≡ false → is_at_digit (behind_fraction free pieces) ≡ false
fraction_stops free pieces off =
    by_test (λ ps. is_at_digit ps ≡ false) (character_here pieces == 46 && is_at_digit (behind_one pieces)) (behind_exponent free (behind_digits (behind_one pieces))) pieces (λ on. exponent_stops free (behind_digits (behind_one pieces)) (digits_end (behind_one pieces))) (λ e. off)

pub widths_is : (free : Bool) (pieces : List Piece) → Sized pieces (behind_widths free pieces)
widths_is free pieces =
    by_test (Sized pieces) _ (behind_fraction free (behind_digits pieces)) pieces (λ on. record { read = found on; stops = inr (fraction_stops free (behind_digits pieces) (digits_end pieces)) })
    (λ off. record { read = nothing_here IsWidths pieces (widths_none refl); stops = inl refl })
  where
    found : (is_at_digit pieces && not (free && wants_number (character_here (behind_digits pieces)))) ≡ true → Behind IsWidths pieces (behind_fraction free (behind_digits pieces))
    found on =
        let parts = and_parts (is_at_digit pieces) _ on in
        let x = fraction_is free (behind_digits pieces) in
        let ds = digits_here pieces in
        record {
          text = ds ++ x.text;
          whole = digits_split pieces ∙ ap (λ r. map plain ds ++ r) x.whole ∙ sym (plain_append ds x.text (behind_fraction free (behind_digits pieces)));
          is = widths_of ds x.text (digits_there pieces parts.0) x.is;
        }

-- ---- a second letter

-- nothing, or one of two characters
abbrev pub IsSecond : ℕ → ℕ → List ℕ → Type 0
IsSecond c d text = (text ≡ []) ⊎ ((text ≡ c ∷ []) ⊎ (text ≡ d ∷ []))

pub second_there : (c d : ℕ) (pieces : List Piece) → c ≢ 0 → d ≢ 0 → (character_here pieces == c || character_here pieces == d) ≡ true → Behind (λ t. (t ≡ c ∷ []) ⊎ (t ≡ d ∷ [])) pieces (behind_one pieces)
second_there c d pieces p q on = go (or_cases (character_here pieces == c) (character_here pieces == d) on)
  where
    go : (character_here pieces == c ≡ true) ⊎ (character_here pieces == d ≡ true) → Behind (λ t. (t ≡ c ∷ []) ⊎ (t ≡ d ∷ [])) pieces (behind_one pieces)
    go (inl e) = record { text = c ∷ []; whole = character_split pieces c (eqb-true _ c e) p; is = inl refl }
    go (inr e) = record { text = d ∷ []; whole = character_split pieces d (eqb-true _ d e) q; is = inr refl }

pub second_is : (c d : ℕ) (pieces : List Piece) → c ≢ 0 → d ≢ 0 → Behind (IsSecond c d) pieces (behind_second c d pieces)
second_is c d pieces p q =
    by_test (Behind (IsSecond c d) pieces) _ (behind_one pieces) pieces (λ on. let x = second_there c d pieces p q on in record { text = x.text; whole = x.whole; is = inr x.is }) (λ off. nothing_here (IsSecond c d) pieces (inl refl))
