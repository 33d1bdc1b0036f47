-- A lexeme that is read is spelled by the pieces before what is left.
use Rattle.std.proofs.Common.{◌≡◌, ◌≢◌, ◌⊎◌, inl, inr, ℕ, Bool, true, false, ◌||◌, ◌==◌, List, [], ◌∷◌, ◌++◌, map, length, Option, Some, None, refl, sym, ap, ◌∙◌, subst, append_assoc, append-nil}
use Rattle.std.specs.Prelude.{if◌then◌else◌, nat_le}
use Rattle.std.specs.List.{list_all}
use Rattle.std.specs.Option.{option_and_then}
use Rattle.std.proofs.lemmas.Bool.{leb-true, eqb-true}
use Rattle.std.proofs.lemmas.Option.{same_Some}
use Rattle.text_base.specs.Chars.{is_digit}
use Rattle.text_base.specs.Pieces.{Piece, plain, whole, broken}
use Rattle.text_base.proofs.Optional.{went, mapped}
use Rattle.text_base.specs.Formats.{integers, texts, text, FormatLexeme, descriptor, slash, opening, closing, comma, colon, scale, other, IsNumber, IsCount, doubled, IsScale, scale_none, scale_digits, scale_signed, IsOther, IsUncut, AreLetters, letters_e, letters_f, letters_d, letters_g, letters_t, letters_tl, letters_tr, letters_s, letters_sp, letters_ss, letters_bn, letters_bz, IsFormatLexeme, lexeme_integers, lexeme_least, lexeme_logicals, lexeme_texts, lexeme_width, lexeme_blanks, lexeme_quoted, lexeme_counted, lexeme_slash, lexeme_opening, lexeme_closing, lexeme_comma, lexeme_colon, lexeme_scale, lexeme_other}
use Rattle.format77.specs.Reading.{digits_here, behind_digits, character_here, behind_one, number_of, count_of, Read, giving, least_of, integers_at, texts_of, undoubled, text_of, quoted_of, counted_at, is_at_digit, behind_widths, Sort, letter_i, letter_l, letter_a, letter_x, letter_h, letter_p, letter_t, letter_s, letter_b, letter_e, an_opening, a_closing, a_comma, a_slash, a_colon, a_sign, nothing, sort_of, refused_at, signed_at, is_written, unless_written, lexeme_of, lexeme_behind, lexeme_at}
use Rattle.format77.proofs.Digits.{plain_append, by_test, digits_split, digits_all, digits_there, digits_end, character_split, uncut_behind, uncut_before, uncut_character, number_is, count_is}
use Rattle.format77.proofs.Sorts.{IsOf, sort_is}
use Rattle.format77.proofs.WidthsSound.{Behind, joined, Sized, widths_is, second_there, second_is}

-- a lexeme stands here, and this is left behind it
pub record Spelled (pieces : List Piece) (i : FormatLexeme) (left : List Piece) : Type 0 where
  pub first : List Piece
  pub whole : pieces ≡ first ++ left
  pub is : IsFormatLexeme first i
  pub uncut : IsUncut first left

-- what is read is what stands here
abbrev IsSound : List Piece → Read → Type 0
IsSound pieces read = (i : FormatLexeme) (left : List Piece) → read ≡ Some (i, left) → Spelled pieces i left

-- ---- what is given

given : (pieces rest : List Piece) (o : Option FormatLexeme) → ((i : FormatLexeme) → o ≡ Some i → Spelled pieces i rest) → IsSound pieces (giving rest o)
given pieces rest o f i left e =
    let m = mapped o (λ j. (j, rest)) (i, left) e in
    let same : m.from ≡ i = ap (λ p. p.0) m.is in
    let behind : rest ≡ left = ap (λ p. p.1) m.is in
    subst (Spelled pieces i) behind (f i (m.was ∙ ap Some same))

one : (pieces rest : List Piece) (j : FormatLexeme) → Spelled pieces j rest → IsSound pieces (Some (j, rest))
one pieces rest j s i left e =
    let same = same_Some _ _ e in
    subst (Spelled pieces i) (ap (λ p. p.1) same) (subst (λ k. Spelled pieces k rest) (ap (λ p. p.0) same) s)

unread : (pieces : List Piece) → IsSound pieces None
unread pieces i left e = absurd cc

-- ---- integers

module _ (ds : List ℕ) (r w : ℕ) (count : IsCount ds r) (rest : List Piece) (width : IsNumber 1 (digits_here rest) w) where
  with_width : Spelled (map plain ds ++ plain 73 ∷ rest) (descriptor (integers r w None)) (behind_digits rest)
  with_width =
      record {
        first = map plain (ds ++ 73 ∷ digits_here rest);
        whole = joined ds 73 (digits_here rest) rest (behind_digits rest) (digits_split rest);
        is = lexeme_integers ds (digits_here rest) r w refl count width refl;
        uncut = uncut_before _ _ (digits_end rest);
      }

  with_least : character_here (behind_digits rest) ≡ 46 → (i : FormatLexeme) → option_and_then (least_of r w) (number_of 0 (digits_here (behind_one (behind_digits rest)))) ≡ Some i
      → Spelled (map plain ds ++ plain 73 ∷ rest) i (behind_digits (behind_one (behind_digits rest)))
  with_least point i e =
      let m = went (number_of 0 (digits_here (behind_one (behind_digits rest)))) (least_of r w) i e in
      let more = behind_one (behind_digits rest) in
      by_test (λ o. o ≡ Some i → Spelled (map plain ds ++ plain 73 ∷ rest) i (behind_digits more)) (nat_le m.from w) (Some (descriptor (integers r w (Some m.from)))) None
      (λ on f. record {
        first = map plain (ds ++ 73 ∷ (digits_here rest ++ 46 ∷ digits_here more));
        whole = joined ds 73 (digits_here rest ++ 46 ∷ digits_here more) rest (behind_digits more)
            (digits_split rest ∙ ap (λ x. map plain (digits_here rest) ++ x) (character_split (behind_digits rest) 46 point (λ z. absurd cc))
            ∙ joined (digits_here rest) 46 (digits_here more) more (behind_digits more) (digits_split more));
        is = lexeme_least ds (digits_here rest) (digits_here more) r w m.from refl count width (number_is 0 (digits_here more) m.from m.was) (leb-true m.from w on) (sym (same_Some _ _ f));
        uncut = uncut_before _ _ (digits_end more);
      }) (λ off f. absurd cc) m.is

  integers_is : IsSound (map plain ds ++ plain 73 ∷ rest) (integers_at r w (behind_digits rest))
  integers_is =
      by_test (IsSound (map plain ds ++ plain 73 ∷ rest)) (character_here (behind_digits rest) == 46) _ (Some (descriptor (integers r w None), behind_digits rest))
      (λ on. given _ (behind_digits (behind_one (behind_digits rest))) _ (with_least (eqb-true (character_here (behind_digits rest)) 46 on)))
      (λ off. one _ (behind_digits rest) (descriptor (integers r w None)) with_width)

-- ---- texts

texts_is : (ds us : List ℕ) (r : ℕ) (rest left : List Piece) → IsCount ds r → rest ≡ map plain us ++ left → is_at_digit left ≡ false → (i : FormatLexeme) → texts_of r us ≡ Some i → Spelled (map plain ds ++ plain 65 ∷ rest) i left
texts_is ds [] r rest left count e off i f = record { first = map plain (ds ++ 65 ∷ []); whole = joined ds 65 [] rest left e; is = lexeme_texts ds r refl count (sym (same_Some _ _ f)); uncut = uncut_before _ _ off }
texts_is ds (c ∷ us) r rest left count e off i f =
    let m = mapped (number_of 1 (c ∷ us)) (λ w. descriptor (texts r (Some w))) i f in
    record { first = map plain (ds ++ 65 ∷ (c ∷ us)); whole = joined ds 65 (c ∷ us) rest left e; is = lexeme_width ds (c ∷ us) r m.from refl count (number_is 1 (c ∷ us) m.from m.was) (sym m.is); uncut = uncut_before _ _ off }

-- a text between apostrophes
undoubled_is : (t v : List ℕ) → undoubled t ≡ Some v → t ≡ doubled v ++ 39 ∷ []
undoubled_is [] v = λ e. absurd cc
undoubled_is (c ∷ []) v =
    by_test (λ o. o ≡ Some v → c ∷ [] ≡ doubled v ++ 39 ∷ []) (c == 39) (Some []) None (λ on e. ap (λ x. x ∷ []) (eqb-true c 39 on) ∙ ap (λ x. doubled x ++ 39 ∷ []) (same_Some _ _ e)) (λ off e. absurd cc)
undoubled_is (c ∷ d ∷ t) v =
    by_test (λ o. o ≡ Some v → c ∷ d ∷ t ≡ doubled v ++ 39 ∷ []) (c == 39) _ _
    (λ on. by_test (λ o. o ≡ Some v → c ∷ d ∷ t ≡ doubled v ++ 39 ∷ []) (d == 39) _ _
    (λ also e. let m = mapped (undoubled t) (λ x. 39 ∷ x) v e in
    ap (λ x. x ∷ d ∷ t) (eqb-true c 39 on) ∙ ap (λ x. 39 ∷ x ∷ t) (eqb-true d 39 also) ∙ ap (λ x. 39 ∷ 39 ∷ x) (undoubled_is t m.from m.was) ∙ ap (λ x. doubled x ++ 39 ∷ []) m.is)
    (λ off e. absurd cc))
    (λ off e. let m = mapped (undoubled (d ∷ t)) (λ x. c ∷ x) v e in
    ap (λ x. c ∷ x) (undoubled_is (d ∷ t) m.from m.was) ∙ ap (λ (b : Bool). (if b then 39 ∷ 39 ∷ doubled m.from else c ∷ doubled m.from) ++ 39 ∷ []) (sym off) ∙ ap (λ x. doubled x ++ 39 ∷ []) m.is)

text_is : (v : List ℕ) (i : FormatLexeme) → text_of v ≡ Some i → (v ≢ []) × (i ≡ descriptor (text v))
text_is [] i e = absurd cc
text_is (c ∷ t) i e = (λ f. absurd cc, sym (same_Some _ _ e))

quoted_is : (t : List ℕ) (i : FormatLexeme) → quoted_of t ≡ Some i → IsFormatLexeme (whole t ∷ []) i
quoted_is [] i = λ e. absurd cc
quoted_is (c ∷ t) i =
    by_test (λ o. o ≡ Some i → IsFormatLexeme (whole (c ∷ t) ∷ []) i) (c == 39) (option_and_then text_of (undoubled t)) None
    (λ on e. let m = went (undoubled t) text_of i e in
    let parts = text_is m.from i m.is in
    lexeme_quoted m.from (ap (λ x. whole x ∷ []) (ap (λ x. x ∷ t) (eqb-true c 39 on) ∙ ap (λ x. 39 ∷ x) (undoubled_is t m.from m.was))) parts.0 parts.1)
    (λ off e. absurd cc)

counted_is : (ds : List ℕ) (n : ℕ) (rest : List Piece) → IsNumber 1 ds n → IsSound (map plain ds ++ plain 72 ∷ rest) (counted_at n rest)
counted_is ds n [] number = unread _
counted_is ds n (plain c ∷ rest) number = unread _
counted_is ds n (broken t ∷ rest) number = unread _
counted_is ds n (whole t ∷ rest) number =
    by_test (IsSound (map plain ds ++ plain 72 ∷ whole t ∷ rest)) (length t == n) (Some (descriptor (text t), rest)) None
    (λ on. one _ rest (descriptor (text t)) (record {
      first = map plain (ds ++ 72 ∷ []) ++ whole t ∷ [];
      whole = sym (append_assoc (map plain (ds ++ 72 ∷ [])) (whole t ∷ []) rest ∙ plain_append ds (72 ∷ []) (whole t ∷ rest));
      is = lexeme_counted ds t refl (subst (IsNumber 1 ds) (sym (eqb-true (length t) n on)) number) refl;
      uncut = uncut_behind (map plain (ds ++ 72 ∷ [])) (whole t) rest refl;
    })) (λ off. unread _)

-- ---- refused descriptors

-- behind what stands before the letters
letters_is : (before letters : List ℕ) (i : FormatLexeme) (rest left : List Piece) → IsScale before → Sized rest left → IsUncut (map plain (before ++ letters)) left → ((written : List ℕ) → IsOther letters written → IsFormatLexeme (map plain written) i)
    → Spelled (map plain before ++ (map plain letters ++ rest)) i left
letters_is before letters i rest left scaled sized alone f =
    let x = sized.read in
    record {
      first = map plain (before ++ (letters ++ x.text));
      whole = ap (λ r. map plain before ++ r) (ap (λ r. map plain letters ++ r) x.whole ∙ sym (plain_append letters x.text left)) ∙ sym (plain_append before (letters ++ x.text) left);
      is = f (before ++ (letters ++ x.text)) (record { before = before; behind = x.text; whole = refl; scaled = scaled; sized = x.is });
      uncut = go sized.stops;
    }
  where
    go : (sized.read.text ≡ []) ⊎ (is_at_digit left ≡ false) → IsUncut (map plain (before ++ (letters ++ sized.read.text))) left
    go (inl e) = subst (λ t. IsUncut (map plain (before ++ t)) left) (sym (ap (λ t. letters ++ t) e ∙ append-nil letters)) alone
    go (inr off) = uncut_before (map plain (before ++ (letters ++ sized.read.text))) left off

others : (letters : List ℕ) → AreLetters letters → (written : List ℕ) → IsOther letters written → IsFormatLexeme (map plain written) other
others letters are written is = lexeme_other letters written refl are is refl

uncut_two : (before : List ℕ) (c d : ℕ) (left : List Piece) → is_digit d ≡ false → IsUncut (map plain (before ++ (c ∷ d ∷ []))) left
uncut_two before c d left off = subst (λ t. IsUncut (map plain t) left) (append_assoc before (c ∷ []) (d ∷ [])) (uncut_character (before ++ c ∷ []) d left off)

-- with a second letter or none
second_letters : (before : List ℕ) (c d e : ℕ) (rest left : List Piece) → IsScale before → AreLetters (c ∷ []) → AreLetters (c ∷ d ∷ []) → AreLetters (c ∷ e ∷ []) → (more : List Piece)
    → Behind (λ t. (t ≡ []) ⊎ ((t ≡ d ∷ []) ⊎ (t ≡ e ∷ []))) rest more → Sized more left → is_digit c ≡ false → is_digit d ≡ false → is_digit e ≡ false → Spelled (map plain before ++ plain c ∷ rest) other left
second_letters before c d e rest left scaled f g h more x w off_c off_d off_e =
    subst (λ r. Spelled (map plain before ++ plain c ∷ r) other left) (sym x.whole) (letters_is before (c ∷ x.text) other more left scaled w (ends x.is) (others (c ∷ x.text) (go x.is)))
  where
    ends : (x.text ≡ []) ⊎ ((x.text ≡ d ∷ []) ⊎ (x.text ≡ e ∷ [])) → IsUncut (map plain (before ++ (c ∷ x.text))) left
    ends (inl a) = subst (λ t. IsUncut (map plain (before ++ (c ∷ t))) left) (sym a) (uncut_character before c left off_c)
    ends (inr (inl a)) = subst (λ t. IsUncut (map plain (before ++ (c ∷ t))) left) (sym a) (uncut_two before c d left off_d)
    ends (inr (inr a)) = subst (λ t. IsUncut (map plain (before ++ (c ∷ t))) left) (sym a) (uncut_two before c e left off_e)

    go : (x.text ≡ []) ⊎ ((x.text ≡ d ∷ []) ⊎ (x.text ≡ e ∷ [])) → AreLetters (c ∷ x.text)
    go (inl a) = subst (λ t. AreLetters (c ∷ t)) (sym a) f
    go (inr (inl a)) = subst (λ t. AreLetters (c ∷ t)) (sym a) g
    go (inr (inr a)) = subst (λ t. AreLetters (c ∷ t)) (sym a) h

both_letters : (before : List ℕ) (rest : List Piece) → IsScale before → Behind (λ t. (t ≡ 78 ∷ []) ⊎ (t ≡ 90 ∷ [])) rest (behind_one rest) → Spelled (map plain before ++ plain 66 ∷ rest) other (behind_widths false (behind_one rest))
both_letters before rest scaled x =
    subst (λ r. Spelled (map plain before ++ plain 66 ∷ r) other (behind_widths false (behind_one rest))) (sym x.whole)
    (letters_is before (66 ∷ x.text) other (behind_one rest) _ scaled (widths_is false (behind_one rest)) (ends x.is) (others (66 ∷ x.text) (go x.is)))
  where
    ends : (x.text ≡ 78 ∷ []) ⊎ (x.text ≡ 90 ∷ []) → IsUncut (map plain (before ++ (66 ∷ x.text))) (behind_widths false (behind_one rest))
    ends (inl a) = subst (λ t. IsUncut (map plain (before ++ (66 ∷ t))) (behind_widths false (behind_one rest))) (sym a) (uncut_two before 66 78 (behind_widths false (behind_one rest)) refl)
    ends (inr a) = subst (λ t. IsUncut (map plain (before ++ (66 ∷ t))) (behind_widths false (behind_one rest))) (sym a) (uncut_two before 66 90 (behind_widths false (behind_one rest)) refl)

    go : (x.text ≡ 78 ∷ []) ⊎ (x.text ≡ 90 ∷ []) → AreLetters (66 ∷ x.text)
    go (inl a) = letters_bn (ap (λ t. 66 ∷ t) a)
    go (inr a) = letters_bz (ap (λ t. 66 ∷ t) a)

one_letter : (c : ℕ) → IsOf c letter_e → AreLetters (c ∷ [])
one_letter c (inl a) = letters_e (ap (λ x. x ∷ []) a)
one_letter c (inr (inl a)) = letters_f (ap (λ x. x ∷ []) a)
one_letter c (inr (inr (inl a))) = letters_d (ap (λ x. x ∷ []) a)
one_letter c (inr (inr (inr a))) = letters_g (ap (λ x. x ∷ []) a)

no_digit : (c : ℕ) → IsOf c letter_e → is_digit c ≡ false
no_digit c (inl a) = ap is_digit a
no_digit c (inr (inl a)) = ap is_digit a
no_digit c (inr (inr (inl a))) = ap is_digit a
no_digit c (inr (inr (inr a))) = ap is_digit a

-- the character is the one of the sort
abbrev with_character : (before : List ℕ) (c d : ℕ) (rest : List Piece) (read : Read) → c ≡ d → IsSound (map plain before ++ plain d ∷ rest) read → IsSound (map plain before ++ plain c ∷ rest) read
with_character before c d rest read e = subst (λ x. IsSound (map plain before ++ plain x ∷ rest) read) (sym e)

refused_is : (s : Sort) (c : ℕ) (before : List ℕ) (rest : List Piece) → IsOf c s → IsScale before → IsSound (map plain before ++ plain c ∷ rest) (refused_at s rest)
refused_is letter_p c before rest is scaled =
    with_character before c 80 rest _ is (one _ _ scale (letters_is before (80 ∷ []) scale rest _ scaled (widths_is true rest) (uncut_character before 80 _ refl) (λ written x. lexeme_scale written refl x refl)))
refused_is letter_t c before rest is scaled =
    with_character before c 84 rest _ is (one _ _ other (second_letters before 84 76 82 rest _ scaled (letters_t refl) (letters_tl refl) (letters_tr refl) _ (second_is 76 82 rest (λ e. absurd cc) (λ e. absurd cc)) (widths_is false _) refl refl refl))
refused_is letter_s c before rest is scaled =
    with_character before c 83 rest _ is (one _ _ other (second_letters before 83 80 83 rest _ scaled (letters_s refl) (letters_sp refl) (letters_ss refl) _ (second_is 80 83 rest (λ e. absurd cc) (λ e. absurd cc)) (widths_is false _) refl refl refl))
refused_is letter_b c before rest is scaled =
    with_character before c 66 rest _ is (by_test (IsSound (map plain before ++ plain 66 ∷ rest)) (character_here rest == 78 || character_here rest == 90) _ None
    (λ on. one _ _ other (both_letters before rest scaled (second_there 78 90 rest (λ e. absurd cc) (λ e. absurd cc) on))) (λ off. unread _))
refused_is letter_e c before rest is scaled = one _ _ other (letters_is before (c ∷ []) other rest _ scaled (widths_is false rest) (uncut_character before c _ (no_digit c is)) (others (c ∷ []) (one_letter c is)))
refused_is letter_i c before rest is scaled = unread _
refused_is letter_l c before rest is scaled = unread _
refused_is letter_a c before rest is scaled = unread _
refused_is letter_x c before rest is scaled = unread _
refused_is letter_h c before rest is scaled = unread _
refused_is an_opening c before rest is scaled = unread _
refused_is a_closing c before rest is scaled = unread _
refused_is a_comma c before rest is scaled = unread _
refused_is a_slash c before rest is scaled = unread _
refused_is a_colon c before rest is scaled = unread _
refused_is a_sign c before rest is scaled = unread _
refused_is nothing c before rest is scaled = unread _

-- some character stands here, where it is of a sort that is refused
character_there : (pieces : List Piece) (i : FormatLexeme) (left : List Piece) → refused_at (sort_of (character_here pieces)) (behind_one pieces) ≡ Some (i, left) → pieces ≡ plain (character_here pieces) ∷ behind_one pieces
character_there [] i left e = absurd cc
character_there (plain c ∷ rest) i left e = refl
character_there (whole t ∷ rest) i left e = absurd cc
character_there (broken t ∷ rest) i left e = absurd cc

signed_is : (c : ℕ) (rest : List Piece) → (c ≡ 43) ⊎ (c ≡ 45) → IsSound (plain c ∷ rest) (signed_at rest)
signed_is c rest is =
    by_test (IsSound (plain c ∷ rest)) (is_at_digit rest) _ None
    (λ on i left e.
    let more = behind_digits rest in
    let d = character_here more in
    let same : plain c ∷ rest ≡ map plain (c ∷ digits_here rest) ++ plain d ∷ behind_one more =
    ap (λ (x : List Piece). plain c ∷ x) (digits_split rest ∙ ap (λ x. map plain (digits_here rest) ++ x) (character_there more i left e)) in
    subst (λ p. Spelled p i left) (sym same) (refused_is (sort_of d) d (c ∷ digits_here rest) (behind_one more) (sort_is d) (scale_signed c refl is (digits_there rest on)) i left e))
    (λ off. unread _)

-- ---- one lexeme

mark_is : (ds : List ℕ) (c : ℕ) (j : FormatLexeme) (rest : List Piece) → is_digit c ≡ false → IsFormatLexeme (plain c ∷ []) j → IsSound (map plain ds ++ plain c ∷ rest) (unless_written (is_written ds) (Some (j, rest)))
mark_is [] c j rest off f = one _ rest j (record { first = plain c ∷ []; whole = refl; is = f; uncut = uncut_behind [] (plain c) rest off })
mark_is (d ∷ ds) c j rest off f = unread _

before_is : (ds : List ℕ) → list_all is_digit ds ≡ true → IsScale ds
before_is [] all = scale_none refl
before_is (c ∷ ds) all = scale_digits all

lexeme_of_is : (s : Sort) (c : ℕ) (ds : List ℕ) (rest : List Piece) → IsOf c s → list_all is_digit ds ≡ true → IsSound (map plain ds ++ plain c ∷ rest) (lexeme_of s ds rest)
lexeme_of_is letter_i c ds rest is all =
    with_character ds c 73 rest _ is (λ i left e.
    let m = went (count_of ds) _ (i, left) e in
    let n = went (number_of 1 (digits_here rest)) _ (i, left) m.is in
    integers_is ds m.from n.from (count_is ds m.from m.was) rest (number_is 1 (digits_here rest) n.from n.was) i left n.is)
lexeme_of_is letter_l c ds rest is all =
    with_character ds c 76 rest _ is (given _ (behind_digits rest) _ (λ i e.
    let m = went (count_of ds) _ i e in
    let n = mapped (number_of 1 (digits_here rest)) _ i m.is in
    record {
      first = map plain (ds ++ 76 ∷ digits_here rest);
      whole = joined ds 76 (digits_here rest) rest (behind_digits rest) (digits_split rest);
      is = lexeme_logicals ds (digits_here rest) m.from n.from refl (count_is ds m.from m.was) (number_is 1 (digits_here rest) n.from n.was) (sym n.is);
      uncut = uncut_before _ _ (digits_end rest);
    }))
lexeme_of_is letter_a c ds rest is all =
    with_character ds c 65 rest _ is (given _ (behind_digits rest) _ (λ i e.
    let m = went (count_of ds) (λ r. texts_of r (digits_here rest)) i e in
    texts_is ds (digits_here rest) m.from rest (behind_digits rest) (count_is ds m.from m.was) (digits_split rest) (digits_end rest) i m.is))
lexeme_of_is letter_x c ds rest is all =
    with_character ds c 88 rest _ is (given _ rest _ (λ i e.
    let m = mapped (number_of 1 ds) _ i e in
    record { first = map plain (ds ++ 88 ∷ []); whole = joined ds 88 [] rest rest refl; is = lexeme_blanks ds m.from refl (number_is 1 ds m.from m.was) (sym m.is); uncut = uncut_character ds 88 rest refl }))
lexeme_of_is letter_h c ds rest is all =
    with_character ds c 72 rest _ is (λ i left e.
    let m = went (number_of 1 ds) (λ n. counted_at n rest) (i, left) e in
    counted_is ds m.from rest (number_is 1 ds m.from m.was) i left m.is)
lexeme_of_is an_opening c ds rest is all =
    with_character ds c 40 rest _ is (given _ rest _ (λ i e.
    let m = mapped (count_of ds) opening i e in
    record { first = map plain (ds ++ 40 ∷ []); whole = joined ds 40 [] rest rest refl; is = lexeme_opening ds m.from refl (count_is ds m.from m.was) (sym m.is); uncut = uncut_character ds 40 rest refl }))
lexeme_of_is a_closing c ds rest is all = with_character ds c 41 rest _ is (mark_is ds 41 closing rest refl (lexeme_closing refl refl))
lexeme_of_is a_comma c ds rest is all = with_character ds c 44 rest _ is (mark_is ds 44 comma rest refl (lexeme_comma refl refl))
lexeme_of_is a_slash c ds rest is all = with_character ds c 47 rest _ is (mark_is ds 47 slash rest refl (lexeme_slash refl refl))
lexeme_of_is a_colon c ds rest is all = with_character ds c 58 rest _ is (mark_is ds 58 colon rest refl (lexeme_colon refl refl))
lexeme_of_is a_sign c [] rest is all = signed_is c rest is
lexeme_of_is a_sign c (d ∷ ds) rest is all = unread _
lexeme_of_is letter_p c ds rest is all = refused_is letter_p c ds rest is (before_is ds all)
lexeme_of_is letter_t c ds rest is all = refused_is letter_t c ds rest is (before_is ds all)
lexeme_of_is letter_s c ds rest is all = refused_is letter_s c ds rest is (before_is ds all)
lexeme_of_is letter_b c ds rest is all = refused_is letter_b c ds rest is (before_is ds all)
lexeme_of_is letter_e c ds rest is all = refused_is letter_e c ds rest is (before_is ds all)
lexeme_of_is nothing c ds rest is all = unread _

behind_is : (ds : List ℕ) (pieces : List Piece) → list_all is_digit ds ≡ true → IsSound (map plain ds ++ pieces) (lexeme_behind ds pieces)
behind_is ds [] all = unread _
behind_is ds (plain c ∷ rest) all = lexeme_of_is (sort_of c) c ds rest (sort_is c) all
behind_is [] (whole t ∷ rest) all = given _ rest (quoted_of t) (λ i e. record { first = whole t ∷ []; whole = refl; is = quoted_is t i e; uncut = uncut_behind [] (whole t) rest refl })
behind_is (d ∷ ds) (whole t ∷ rest) all = unread _
behind_is ds (broken t ∷ rest) all = unread _

-- the lexeme that is read stands here
pub lexeme_is : (pieces : List Piece) (i : FormatLexeme) (left : List Piece) → lexeme_at pieces ≡ Some (i, left) → Spelled pieces i left
unfolding lexeme_at
lexeme_is pieces i left e = subst (λ p. Spelled p i left) (sym (digits_split pieces)) (behind_is (digits_here pieces) (behind_digits pieces) (digits_all pieces) i left e)
