-- What lexemes begin with.
use Rattle.std.proofs.Common.{◌≡◌, ◌⊎◌, inl, inr, ℕ, Bool, true, false, not, ◌||◌, ◌==◌, List, [], ◌∷◌, ◌++◌, map, refl, sym, ap, ◌∙◌}
use Rattle.std.specs.Prelude.{codes, length}
use Rattle.std.specs.List.{list_all}
use Rattle.std.proofs.lemmas.Bool.{or_from, and_parts}
use Rattle.text_base.specs.Chars.{is_digit}
use Rattle.text_base.specs.Pieces.{Piece, plain, whole}
use Rattle.text_base.specs.Formats.{FormatLexeme, other, is_unsigned, IsNumber, IsScale, scale_none, scale_digits, scale_signed, IsWidths, AreLetters, letters_e, letters_f, letters_d, letters_g, letters_t, letters_tl, letters_tr, letters_s, letters_sp, letters_ss, letters_bn, letters_bz, IsFormatLexeme, lexeme_integers, lexeme_least, lexeme_logicals, lexeme_texts, lexeme_width, lexeme_blanks, lexeme_quoted, lexeme_counted, lexeme_slash, lexeme_opening, lexeme_closing, lexeme_comma, lexeme_colon, lexeme_scale, lexeme_other, begins_item, is_free_before}
use Rattle.format77.specs.Reading.{character_here, wants_number}
use Rattle.format77.proofs.Digits.{count_digits}
use Rattle.format77.proofs.LexemeFound.{Ends, end_comma, end_closing, end_slash, end_colon, unsigned_digits}
use Rattle.format77.proofs.WidthsFound.{digit_other}

-- a letter that wants a number, a point, or E
abbrev pub is_odd : ℕ → Bool
is_odd c = (wants_number c || c == 46) || c == 69

digit_even : (c : ℕ) → is_digit c ≡ true → is_odd c ≡ false
digit_even c on =
    or_from (wants_number c || c == 46) (c == 69) (or_from (wants_number c) (c == 46) (or_from (c == 72) (c == 88) (digit_other c 72 refl on) (digit_other c 88 refl on)) (digit_other c 46 refl on)) (digit_other c 69 refl on)

-- E and numbers
pub record IsE (first : List Piece) (i : FormatLexeme) : Type 0 where
  pub behind : List ℕ
  pub whole : first ≡ map plain (69 ∷ behind)
  pub sized : IsWidths behind
  pub is : i ≡ other

abbrev pub Even : List Piece → Type 0
Even pieces = is_odd (character_here pieces) ≡ false

count_even : (ds : List ℕ) (c : ℕ) (b : List ℕ) (rest : List Piece) → list_all is_digit ds ≡ true → is_odd c ≡ false → Even (map plain (ds ++ c ∷ b) ++ rest)
count_even [] c b rest all off = off
count_even (d ∷ ds) c b rest all off = digit_even d (and_parts (is_digit d) (list_all is_digit ds) all).0

number_even : (ds : List ℕ) (n : ℕ) (b : List ℕ) (rest : List Piece) → IsNumber 1 ds n → Even (map plain (ds ++ b) ++ rest)
number_even [] n b rest number = let wrong : false ≡ true = number.numeric in absurd cc
number_even (d ∷ ds) n b rest number = digit_even d (and_parts (is_digit d) (list_all is_digit ds) number.numeric).0

scale_even : (before : List ℕ) (c : ℕ) (b : List ℕ) (rest : List Piece) → IsScale before → is_odd c ≡ false → Even (map plain (before ++ c ∷ b) ++ rest)
scale_even before c b rest (scale_none e) off = ap (λ t. is_odd (character_here (map plain (t ++ c ∷ b) ++ rest))) e ∙ off
scale_even before c b rest (scale_digits e) off = count_even before c b rest (unsigned_digits before e) off
scale_even before c b rest (scale_signed {digits = ds} sign e is on) off = ap (λ t. is_odd (character_here (map plain (t ++ c ∷ b) ++ rest))) e ∙ go is
  where
    go : (sign ≡ 43) ⊎ (sign ≡ 45) → is_odd sign ≡ false
    go (inl s) = ap is_odd s
    go (inr s) = ap is_odd s

other_even : (before letters behind : List ℕ) (rest : List Piece) → AreLetters letters → IsScale before → (Even (map plain (before ++ (letters ++ behind)) ++ rest)) ⊎ ((before ≡ []) × (letters ≡ codes "E"))
other_even before letters behind rest are scaled = go are
  where
    along : (l : List ℕ) → letters ≡ l → Even (map plain (before ++ (l ++ behind)) ++ rest) → (Even (map plain (before ++ (letters ++ behind)) ++ rest)) ⊎ ((before ≡ []) × (letters ≡ codes "E"))
    along l e f = inl (ap (λ t. is_odd (character_here (map plain (before ++ (t ++ behind)) ++ rest))) e ∙ f)

    e_case : letters ≡ codes "E" → IsScale before → (Even (map plain (before ++ (letters ++ behind)) ++ rest)) ⊎ ((before ≡ []) × (letters ≡ codes "E"))
    e_case e (scale_none n) = inr (n, e)
    e_case e (scale_digits n) = along (codes "E") e (digits_e before n)
      where
        digits_e : (ds : List ℕ) → is_unsigned ds ≡ true → Even (map plain (ds ++ (69 ∷ behind)) ++ rest)
        digits_e [] m = absurd cc
        digits_e (d ∷ ds) m = digit_even d (and_parts (is_digit d) (list_all is_digit ds) m).0
    e_case e (scale_signed {digits = ds} sign n is on) = along (codes "E") e (ap (λ t. is_odd (character_here (map plain (t ++ (69 ∷ behind)) ++ rest))) n ∙ sign_even is)
      where
        sign_even : (sign ≡ 43) ⊎ (sign ≡ 45) → is_odd sign ≡ false
        sign_even (inl s) = ap is_odd s
        sign_even (inr s) = ap is_odd s

    go : AreLetters letters → (Even (map plain (before ++ (letters ++ behind)) ++ rest)) ⊎ ((before ≡ []) × (letters ≡ codes "E"))
    go (letters_e e) = e_case e scaled
    go (letters_f e) = along (codes "F") e (scale_even before 70 behind rest scaled refl)
    go (letters_d e) = along (codes "D") e (scale_even before 68 behind rest scaled refl)
    go (letters_g e) = along (codes "G") e (scale_even before 71 behind rest scaled refl)
    go (letters_t e) = along (codes "T") e (scale_even before 84 behind rest scaled refl)
    go (letters_tl e) = along (codes "TL") e (scale_even before 84 (76 ∷ behind) rest scaled refl)
    go (letters_tr e) = along (codes "TR") e (scale_even before 84 (82 ∷ behind) rest scaled refl)
    go (letters_s e) = along (codes "S") e (scale_even before 83 behind rest scaled refl)
    go (letters_sp e) = along (codes "SP") e (scale_even before 83 (80 ∷ behind) rest scaled refl)
    go (letters_ss e) = along (codes "SS") e (scale_even before 83 (83 ∷ behind) rest scaled refl)
    go (letters_bn e) = along (codes "BN") e (scale_even before 66 (78 ∷ behind) rest scaled refl)
    go (letters_bz e) = along (codes "BZ") e (scale_even before 66 (90 ∷ behind) rest scaled refl)

-- a lexeme begins otherwise, or is E with numbers
pub first_even : (first : List Piece) (i : FormatLexeme) (rest : List Piece) → IsFormatLexeme first i → Even (first ++ rest) ⊎ IsE first i
first_even first i rest is = go is
  where
    from : (p : List Piece) → first ≡ p → Even (p ++ rest) → Even (first ++ rest) ⊎ IsE first i
    from p e f = inl (ap (λ q. is_odd (character_here (q ++ rest))) e ∙ f)

    go : IsFormatLexeme first i → Even (first ++ rest) ⊎ IsE first i
    go (lexeme_integers ds us r w e count width j) = from _ e (count_even ds 73 us rest (count_digits ds r count) refl)
    go (lexeme_least ds us vs r w m e count width least le j) = from _ e (count_even ds 73 (us ++ 46 ∷ vs) rest (count_digits ds r count) refl)
    go (lexeme_logicals ds us r w e count width j) = from _ e (count_even ds 76 us rest (count_digits ds r count) refl)
    go (lexeme_texts ds r e count j) = from _ e (count_even ds 65 [] rest (count_digits ds r count) refl)
    go (lexeme_width ds us r w e count width j) = from _ e (count_even ds 65 us rest (count_digits ds r count) refl)
    go (lexeme_blanks ds n e number j) = from _ e (number_even ds n (88 ∷ []) rest number)
    go (lexeme_quoted v e value j) = from _ e refl
    go (lexeme_counted ds v e number j) = from _ e (counted ds number)
      where
        counted : (us : List ℕ) → IsNumber 1 us (length v) → Even ((map plain (us ++ 72 ∷ []) ++ whole v ∷ []) ++ rest)
        counted [] h = let wrong : false ≡ true = h.numeric in absurd cc
        counted (d ∷ us) h = digit_even d (and_parts (is_digit d) (list_all is_digit us) h.numeric).0
    go (lexeme_slash e j) = from _ e refl
    go (lexeme_opening ds r e count j) = from _ e (count_even ds 40 [] rest (count_digits ds r count) refl)
    go (lexeme_closing e j) = from _ e refl
    go (lexeme_comma e j) = from _ e refl
    go (lexeme_colon e j) = from _ e refl
    go (lexeme_scale t e o j) = from _ (e ∙ ap (map plain) o.whole) (scale_even o.before 80 o.behind rest o.scaled refl)
    go (lexeme_other l t e are o j) = other (other_even o.before l o.behind rest are o.scaled)
      where
        other : (Even (map plain (o.before ++ (l ++ o.behind)) ++ rest)) ⊎ ((o.before ≡ []) × (l ≡ codes "E")) → Even (first ++ rest) ⊎ IsE first i
        other (inl f) = from _ (e ∙ ap (map plain) o.whole) f
        other (inr p) = inr (record { behind = o.behind; whole = e ∙ ap (map plain) (o.whole ∙ ap (λ b. b ++ (l ++ o.behind)) p.0 ∙ ap (λ m. m ++ o.behind) p.1); sized = o.sized; is = j })

-- ---- what follows an item

-- it may stand behind a descriptor
abbrev pub may_end : FormatLexeme → Bool
may_end i = not (begins_item i) || is_free_before i

pub end_first : (first : List Piece) (i : FormatLexeme) (rest : List Piece) → IsFormatLexeme first i → may_end i ≡ true → Ends (first ++ rest)
end_first first i rest is on = go is
  where
    wrong : (j : FormatLexeme) → i ≡ j → may_end j ≡ false → Ends (first ++ rest)
    wrong j e off = let bad : true ≡ false = sym on ∙ ap may_end e ∙ off in absurd cc

    at : (c : ℕ) → first ≡ plain c ∷ [] → character_here (first ++ rest) ≡ c
    at c e = ap (λ p. character_here (p ++ rest)) e

    go : IsFormatLexeme first i → Ends (first ++ rest)
    go (lexeme_integers ds us r w e count width j) = wrong _ j refl
    go (lexeme_least ds us vs r w m e count width least le j) = wrong _ j refl
    go (lexeme_logicals ds us r w e count width j) = wrong _ j refl
    go (lexeme_texts ds r e count j) = wrong _ j refl
    go (lexeme_width ds us r w e count width j) = wrong _ j refl
    go (lexeme_blanks ds n e number j) = wrong _ j refl
    go (lexeme_quoted v e value j) = wrong _ j refl
    go (lexeme_counted ds v e number j) = wrong _ j refl
    go (lexeme_slash e j) = end_slash (at 47 e)
    go (lexeme_opening ds r e count j) = wrong _ j refl
    go (lexeme_closing e j) = end_closing (at 41 e)
    go (lexeme_comma e j) = end_comma (at 44 e)
    go (lexeme_colon e j) = end_colon (at 58 e)
    go (lexeme_scale t e o j) = wrong _ j refl
    go (lexeme_other l t e are o j) = wrong _ j refl
