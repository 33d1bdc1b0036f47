-- Each refused descriptor but a scale factor is read, where what may follow it stands behind it, and so each lexeme.
use Rattle.std.proofs.Common.{◌≡◌, ◌⊎◌, inl, inr, ℕ, Bool, true, false, not, ◌&&◌, ◌||◌, ◌==◌, List, [], ◌∷◌, ◌++◌, map, Some, refl, sym, ap, ◌∙◌}
use Rattle.std.specs.Prelude.{if◌then◌else◌}
use Rattle.std.proofs.lemmas.Bool.{or_from, eqb-true, false_from_ne_true}
use Rattle.text_base.specs.Chars.{is_digit}
use Rattle.text_base.specs.Pieces.{Piece, plain}
use Rattle.text_base.specs.Formats.{FormatLexeme, descriptor, slash, closing, comma, colon, scale, other, is_unsigned, IsScale, IsWidths, widths_none, widths_width, widths_point, widths_exponent, AreLetters, letters_e, letters_f, letters_d, letters_g, letters_t, letters_tl, letters_tr, letters_s, letters_sp, letters_ss, letters_bn, letters_bz, IsFormatLexeme, lexeme_integers, lexeme_least, lexeme_logicals, lexeme_texts, lexeme_width, lexeme_blanks, lexeme_quoted, lexeme_counted, lexeme_slash, lexeme_opening, lexeme_closing, lexeme_comma, lexeme_colon, lexeme_scale, lexeme_other}
use Rattle.format77.specs.Reading.{Read, behind_digits, character_here, behind_one, is_at_digit, wants_number, behind_exponent, behind_fraction, behind_widths, behind_second, lexeme_at}
use Rattle.format77.proofs.Digits.{plain_append, digits_left}
use Rattle.format77.proofs.LexemeFound.{Ends, end_test, end_digit, unsigned_digits, at_unsigned, scaled_at, integers_found, least_found, logicals_found, width_found, texts_found, blanks_found, opening_found, counted_found, quoted_found, mark_found}

-- ---- numbers behind letters

pub exponent_step : (free : Bool) (es : List ℕ) (rest : List Piece) → is_unsigned es ≡ true → is_at_digit rest ≡ false → (character_here rest == 46) ≡ false → behind_exponent free (plain 69 ∷ (map plain es ++ rest)) ≡ rest
exponent_step free es rest on off point =
    let p : List Piece = plain 69 ∷ (map plain es ++ rest) in
    ap (λ b. if b && not (free && character_here (behind_digits (map plain es ++ rest)) == 46) then behind_digits (map plain es ++ rest) else p) (at_unsigned es rest on)
    ∙ ap (λ ps. if not (free && character_here ps == 46) then ps else p) (digits_left es rest (unsigned_digits es on) off)
    ∙ ap (λ b. if not (free && b) then rest else p) point ∙ go free p
  where
    go : (b : Bool) (p : List Piece) → (if not (b && false) then rest else p) ≡ rest
    go true p = refl
    go false p = refl

pub exponent_none : (free : Bool) (rest : List Piece) → (character_here rest == 69) ≡ false → behind_exponent free rest ≡ rest
exponent_none free rest off = ap (λ b. if b && (is_at_digit (behind_one rest) && not (free && character_here (behind_digits (behind_one rest)) == 46)) then behind_digits (behind_one rest) else rest) off

fraction_step : (free : Bool) (ds : List ℕ) (tail : List Piece) → is_unsigned ds ≡ true → is_at_digit tail ≡ false → behind_fraction free (plain 46 ∷ (map plain ds ++ tail)) ≡ behind_exponent free tail
fraction_step free ds tail on off =
    ap (λ b. if b then behind_exponent free (behind_digits (map plain ds ++ tail)) else plain 46 ∷ (map plain ds ++ tail)) (at_unsigned ds tail on)
    ∙ ap (behind_exponent free) (digits_left ds tail (unsigned_digits ds on) off)

pub fraction_none : (free : Bool) (rest : List Piece) → (character_here rest == 46) ≡ false → behind_fraction free rest ≡ rest
fraction_none free rest off = ap (λ b. if b && is_at_digit (behind_one rest) then behind_exponent free (behind_digits (behind_one rest)) else rest) off

pub widths_step : (free : Bool) (ds : List ℕ) (tail : List Piece) → is_unsigned ds ≡ true → is_at_digit tail ≡ false → wants_number (character_here tail) ≡ false → behind_widths free (map plain ds ++ tail) ≡ behind_fraction free tail
widths_step free ds tail on off wants =
    let p : List Piece = map plain ds ++ tail in
    ap (λ b. if b && not (free && wants_number (character_here (behind_digits p))) then behind_fraction free (behind_digits p) else p) (at_unsigned ds tail on)
    ∙ ap (λ ps. if not (free && wants_number (character_here ps)) then behind_fraction free ps else p) (digits_left ds tail (unsigned_digits ds on) off)
    ∙ ap (λ b. if not (free && b) then behind_fraction free tail else p) wants ∙ go free p
  where
    go : (b : Bool) (p : List Piece) → (if not (b && false) then behind_fraction free tail else p) ≡ behind_fraction free tail
    go true p = refl
    go false p = refl

pub widths_off : (free : Bool) (rest : List Piece) → is_at_digit rest ≡ false → behind_widths free rest ≡ rest
widths_off free rest off = ap (λ b. if b && not (free && wants_number (character_here (behind_digits rest))) then behind_fraction free (behind_digits rest) else rest) off

-- no character stands here that makes numbers go on, or that wants a number
pub record IsApart (rest : List Piece) : Type 0 where
  pub digit : is_at_digit rest ≡ false
  pub point : (character_here rest == 46) ≡ false
  pub wants : wants_number (character_here rest) ≡ false

-- behind numbers what follows is left, but for an exponent
pub sized_left : (free : Bool) (behind : List ℕ) (rest : List Piece) → IsWidths behind → IsApart rest
    → (behind_widths free (map plain behind ++ rest) ≡ rest) ⊎ (behind_widths free (map plain behind ++ rest) ≡ behind_exponent free rest)
sized_left free behind rest (widths_none e) a = inl (ap (λ t. behind_widths free (map plain t ++ rest)) e ∙ widths_off free rest a.digit)
sized_left free behind rest (widths_width on) a = inl (widths_step free behind rest on a.digit a.wants ∙ fraction_none free rest a.point)
sized_left free behind rest (widths_point w d e on also) a =
    inr (ap (λ t. behind_widths free (map plain t ++ rest)) e ∙ ap (behind_widths free) (plain_append w (46 ∷ d) rest) ∙ widths_step free w (plain 46 ∷ (map plain d ++ rest)) on refl refl ∙ fraction_step free d rest also a.digit)
sized_left free behind rest (widths_exponent w d x e on also last) a =
    inl (ap (λ t. behind_widths free (map plain t ++ rest)) e ∙ ap (behind_widths free) (plain_append w (46 ∷ (d ++ 69 ∷ x)) rest)
    ∙ widths_step free w (plain 46 ∷ (map plain (d ++ 69 ∷ x) ++ rest)) on refl refl
    ∙ ap (λ ps. behind_fraction free (plain 46 ∷ ps)) (plain_append d (69 ∷ x) rest) ∙ fraction_step free d (plain 69 ∷ (map plain x ++ rest)) also refl
    ∙ exponent_step free x rest last a.digit a.point)

pub end_apart : (rest : List Piece) → Ends rest → IsApart rest
end_apart rest ends = record { digit = end_digit rest ends; point = end_test (λ c. c == 46) (character_here rest) refl refl refl refl refl ends; wants = end_test wants_number (character_here rest) refl refl refl refl refl ends }

widths_found : (behind : List ℕ) (rest : List Piece) → IsWidths behind → Ends rest → behind_widths false (map plain behind ++ rest) ≡ rest
widths_found behind rest sized ends = go (sized_left false behind rest sized (end_apart rest ends))
  where
    go : (behind_widths false (map plain behind ++ rest) ≡ rest) ⊎ (behind_widths false (map plain behind ++ rest) ≡ behind_exponent false rest) → behind_widths false (map plain behind ++ rest) ≡ rest
    go (inl e) = e
    go (inr e) = e ∙ exponent_none false rest (end_test (λ c. c == 69) (character_here rest) refl refl refl refl refl ends)

-- ---- letters

pub digit_other : (c d : ℕ) → is_digit d ≡ false → is_digit c ≡ true → (c == d) ≡ false
digit_other c d off on = false_from_ne_true (c == d) (λ e. let same : is_digit c ≡ is_digit d = ap is_digit (eqb-true c d e) in absurd cc)

-- what stands behind letters is a digit, or what follows the descriptor
start_test : (test : ℕ → Bool) (behind : List ℕ) (rest : List Piece) → ((c : ℕ) → is_digit c ≡ true → test c ≡ false) → test (character_here rest) ≡ false → IsWidths behind → test (character_here (map plain behind ++ rest)) ≡ false
start_test test behind rest f end sized = go behind (starts sized)
  where
    go : (t : List ℕ) → (t ≡ []) ⊎ (is_at_digit (map plain t ++ rest) ≡ true) → test (character_here (map plain t ++ rest)) ≡ false
    go t (inl e) = ap (λ u. test (character_here (map plain u ++ rest))) e ∙ end
    go t (inr on) = f (character_here (map plain t ++ rest)) on

    starts : IsWidths behind → (behind ≡ []) ⊎ (is_at_digit (map plain behind ++ rest) ≡ true)
    starts (widths_none e) = inl e
    starts (widths_width on) = inr (at_unsigned behind rest on)
    starts (widths_point w d e on also) = inr (ap (λ t. is_at_digit (map plain t ++ rest)) e ∙ ap is_at_digit (plain_append w (46 ∷ d) rest) ∙ at_unsigned w _ on)
    starts (widths_exponent w d x e on also last) = inr (ap (λ t. is_at_digit (map plain t ++ rest)) e ∙ ap is_at_digit (plain_append w (46 ∷ (d ++ 69 ∷ x)) rest) ∙ at_unsigned w _ on)

no_second : (c d : ℕ) (behind : List ℕ) (rest : List Piece) → is_digit c ≡ false → is_digit d ≡ false → (character_here rest == c) ≡ false → (character_here rest == d) ≡ false → IsWidths behind
    → behind_second c d (map plain behind ++ rest) ≡ map plain behind ++ rest
no_second c d behind rest off_c off_d e f sized =
    ap (λ b. if b then behind_one (map plain behind ++ rest) else map plain behind ++ rest)
    (start_test (λ x. x == c || x == d) behind rest (λ x on. or_from (x == c) (x == d) (digit_other x c off_c on) (digit_other x d off_d on)) (or_from (character_here rest == c) (character_here rest == d) e f) sized)

abbrev letters_at : List ℕ → List ℕ → List Piece → List ℕ → Read
letters_at before behind rest l = lexeme_at (map plain (before ++ (l ++ behind)) ++ rest)

abbrev told : List Piece → Read
told left = Some (other, left)

pub other_found : (before letters behind : List ℕ) (rest : List Piece) → AreLetters letters → IsScale before → IsWidths behind → Ends rest → lexeme_at (map plain (before ++ (letters ++ behind)) ++ rest) ≡ Some (other, rest)
other_found before letters behind rest are scaled sized ends = go are
  where
    numbers : told (behind_widths false (map plain behind ++ rest)) ≡ told rest
    numbers = ap told (widths_found behind rest sized ends)

    alone : (c d : ℕ) → is_digit c ≡ false → is_digit d ≡ false → (character_here rest == c) ≡ false → (character_here rest == d) ≡ false → told (behind_widths false (behind_second c d (map plain behind ++ rest))) ≡ told rest
    alone c d p q e f = ap (λ ps. told (behind_widths false ps)) (no_second c d behind rest p q e f sized) ∙ numbers

    end_off : (c : ℕ) → (0 == c) ≡ false → (44 == c) ≡ false → (41 == c) ≡ false → (47 == c) ≡ false → (58 == c) ≡ false → (character_here rest == c) ≡ false
    end_off c a b d e f = end_test (λ x. x == c) (character_here rest) a b d e f ends

    go : AreLetters letters → lexeme_at (map plain (before ++ (letters ++ behind)) ++ rest) ≡ Some (other, rest)
    go (letters_e e) = ap (letters_at before behind rest) e ∙ scaled_at before 69 behind rest refl (λ ds left. refl) scaled ∙ numbers
    go (letters_f e) = ap (letters_at before behind rest) e ∙ scaled_at before 70 behind rest refl (λ ds left. refl) scaled ∙ numbers
    go (letters_d e) = ap (letters_at before behind rest) e ∙ scaled_at before 68 behind rest refl (λ ds left. refl) scaled ∙ numbers
    go (letters_g e) = ap (letters_at before behind rest) e ∙ scaled_at before 71 behind rest refl (λ ds left. refl) scaled ∙ numbers
    go (letters_t e) = ap (letters_at before behind rest) e ∙ scaled_at before 84 behind rest refl (λ ds left. refl) scaled ∙ alone 76 82 refl refl (end_off 76 refl refl refl refl refl) (end_off 82 refl refl refl refl refl)
    go (letters_tl e) = ap (letters_at before behind rest) e ∙ scaled_at before 84 (76 ∷ behind) rest refl (λ ds left. refl) scaled ∙ numbers
    go (letters_tr e) = ap (letters_at before behind rest) e ∙ scaled_at before 84 (82 ∷ behind) rest refl (λ ds left. refl) scaled ∙ numbers
    go (letters_s e) = ap (letters_at before behind rest) e ∙ scaled_at before 83 behind rest refl (λ ds left. refl) scaled ∙ alone 80 83 refl refl (end_off 80 refl refl refl refl refl) (end_off 83 refl refl refl refl refl)
    go (letters_sp e) = ap (letters_at before behind rest) e ∙ scaled_at before 83 (80 ∷ behind) rest refl (λ ds left. refl) scaled ∙ numbers
    go (letters_ss e) = ap (letters_at before behind rest) e ∙ scaled_at before 83 (83 ∷ behind) rest refl (λ ds left. refl) scaled ∙ numbers
    go (letters_bn e) = ap (letters_at before behind rest) e ∙ scaled_at before 66 (78 ∷ behind) rest refl (λ ds left. refl) scaled ∙ numbers
    go (letters_bz e) = ap (letters_at before behind rest) e ∙ scaled_at before 66 (90 ∷ behind) rest refl (λ ds left. refl) scaled ∙ numbers

-- ---- each lexeme

-- behind which a comma, a slash, a colon, a closing parenthesis or nothing stands
abbrev pub wants_end : FormatLexeme → Bool
wants_end (descriptor d) = true
wants_end other = true
wants_end _ = false

abbrev pub is_scale : FormatLexeme → Bool
is_scale scale = true
is_scale _ = false

pub lexeme_found : (first : List Piece) (i : FormatLexeme) (rest : List Piece) → IsFormatLexeme first i → is_scale i ≡ false → (wants_end i ≡ true → Ends rest) → lexeme_at (first ++ rest) ≡ Some (i, rest)
lexeme_found first i rest (lexeme_integers ds us r w e count width is) off ends =
    ap (λ p. lexeme_at (p ++ rest)) e ∙ integers_found ds us r w rest count width (ends (ap wants_end is)) ∙ ap (λ j. Some (j, rest)) (sym is)
lexeme_found first i rest (lexeme_least ds us vs r w m e count width least le is) off ends =
    ap (λ p. lexeme_at (p ++ rest)) e ∙ least_found ds us vs r w m rest count width least le (ends (ap wants_end is)) ∙ ap (λ j. Some (j, rest)) (sym is)
lexeme_found first i rest (lexeme_logicals ds us r w e count width is) off ends =
    ap (λ p. lexeme_at (p ++ rest)) e ∙ logicals_found ds us r w rest count width (ends (ap wants_end is)) ∙ ap (λ j. Some (j, rest)) (sym is)
lexeme_found first i rest (lexeme_texts ds r e count is) off ends = ap (λ p. lexeme_at (p ++ rest)) e ∙ texts_found ds r rest count (ends (ap wants_end is)) ∙ ap (λ j. Some (j, rest)) (sym is)
lexeme_found first i rest (lexeme_width ds us r w e count width is) off ends =
    ap (λ p. lexeme_at (p ++ rest)) e ∙ width_found ds us r w rest count width (ends (ap wants_end is)) ∙ ap (λ j. Some (j, rest)) (sym is)
lexeme_found first i rest (lexeme_blanks ds n e number is) off ends = ap (λ p. lexeme_at (p ++ rest)) e ∙ blanks_found ds n rest number ∙ ap (λ j. Some (j, rest)) (sym is)
lexeme_found first i rest (lexeme_quoted v e value is) off ends = ap (λ p. lexeme_at (p ++ rest)) e ∙ quoted_found v rest value ∙ ap (λ j. Some (j, rest)) (sym is)
lexeme_found first i rest (lexeme_counted ds v e number is) off ends = ap (λ p. lexeme_at (p ++ rest)) e ∙ counted_found ds v rest number ∙ ap (λ j. Some (j, rest)) (sym is)
lexeme_found first i rest (lexeme_slash e is) off ends = ap (λ p. lexeme_at (p ++ rest)) e ∙ mark_found 47 slash rest refl refl ∙ ap (λ j. Some (j, rest)) (sym is)
lexeme_found first i rest (lexeme_opening ds r e count is) off ends = ap (λ p. lexeme_at (p ++ rest)) e ∙ opening_found ds r rest count ∙ ap (λ j. Some (j, rest)) (sym is)
lexeme_found first i rest (lexeme_closing e is) off ends = ap (λ p. lexeme_at (p ++ rest)) e ∙ mark_found 41 closing rest refl refl ∙ ap (λ j. Some (j, rest)) (sym is)
lexeme_found first i rest (lexeme_comma e is) off ends = ap (λ p. lexeme_at (p ++ rest)) e ∙ mark_found 44 comma rest refl refl ∙ ap (λ j. Some (j, rest)) (sym is)
lexeme_found first i rest (lexeme_colon e is) off ends = ap (λ p. lexeme_at (p ++ rest)) e ∙ mark_found 58 colon rest refl refl ∙ ap (λ j. Some (j, rest)) (sym is)
lexeme_found first i rest (lexeme_scale t e o is) off ends = let same : true ≡ false = sym (ap is_scale is) ∙ off in absurd cc
lexeme_found first i rest (lexeme_other l t e are o is) off ends =
    ap (λ p. lexeme_at (p ++ rest)) e ∙ ap (λ u. lexeme_at (map plain u ++ rest)) o.whole ∙ other_found o.before l o.behind rest are o.scaled o.sized (ends (ap wants_end is)) ∙ ap (λ j. Some (j, rest)) (sym is)
