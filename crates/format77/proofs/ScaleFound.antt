-- What is left behind a scale factor: the lexemes that follow it, but that digits before the next may belong to it, or E and
-- digits. Only the parentheses of what follows count, since the scale factor is refused.
use Rattle.std.proofs.Common.{◌≡◌, ◌⊎◌, inl, inr, ℕ, zero, suc, ◌≤◌, Bool, true, false, not, ◌&&◌, ◌||◌, ◌==◌, List, [], ◌∷◌, ◌++◌, map, length, refl, sym, ap, ◌∙◌, subst, append_assoc, arith}
use Rattle.std.specs.Prelude.{if◌then◌else◌, Some, None}
use Rattle.std.specs.List.{list_all}
use Rattle.std.proofs.lemmas.Bool.{or_parts, and_parts, and_from}
use Rattle.text_base.specs.Chars.{is_digit}
use Rattle.text_base.specs.Pieces.{Piece, plain, whole}
use Rattle.text_base.specs.Formats.{integers, logicals, texts, FormatEdit, FormatLexeme, descriptor, slash, opening, closing, comma, colon, scale, other, is_unsigned, IsCount, IsScale, scale_none, scale_digits, scale_signed, IsWidths, widths_none, widths_width, widths_point, widths_exponent, IsOther, AreLetters, letters_e, letters_f, letters_d, letters_g, letters_t, letters_tl, letters_tr, letters_s, letters_sp, letters_ss, letters_bn, letters_bz, IsFormatLexeme, lexeme_integers, lexeme_least, lexeme_logicals, lexeme_texts, lexeme_width, lexeme_blanks, lexeme_quoted, lexeme_counted, lexeme_slash, lexeme_opening, lexeme_closing, lexeme_comma, lexeme_colon, lexeme_scale, lexeme_other, AreFormatLexemes, lexemes_none, lexemes_more, begins_in_digit, ends_in_digit, IsUncut, begins_item, may_follow, are_separated}
use Rattle.format77.specs.Reading.{behind_digits, character_here, is_at_digit, wants_number, behind_exponent, behind_fraction, behind_widths}
use Rattle.format77.proofs.Digits.{plain_append, digits_left, count_digits, number_digits, same_start}
use Rattle.format77.proofs.LexemeFound.{Ends, end_none, end_test, end_digit, unsigned_digits}
use Rattle.format77.proofs.WidthsFound.{IsApart, exponent_none, exponent_step, fraction_none, widths_step, widths_off, sized_left}
use Rattle.format77.proofs.Starts.{is_odd, IsE, Even, first_even, may_end, end_first}

-- ---- parentheses

-- each closing parenthesis has its opening one, and the other way round, where so many are open
abbrev pub balanced : ℕ → List FormatLexeme → Bool
balanced zero [] = true
balanced (suc k) [] = false
balanced k (opening r ∷ is) = balanced (suc k) is
balanced zero (closing ∷ is) = false
balanced (suc k) (closing ∷ is) = balanced k is
balanced k (descriptor d ∷ is) = balanced k is
balanced k (slash ∷ is) = balanced k is
balanced k (comma ∷ is) = balanced k is
balanced k (colon ∷ is) = balanced k is
balanced k (scale ∷ is) = balanced k is
balanced k (other ∷ is) = balanced k is

-- ---- what follows

-- the lexemes that are left are separated from a scale factor, and have the same parentheses
pub record Going (left : List Piece) (js : List FormatLexeme) : Type 0 where
  pub others : List FormatLexeme
  pub spelled : AreFormatLexemes left others
  pub separated : are_separated scale others ≡ true
  pub balance : (k : ℕ) → balanced k js ≡ balanced k others
  pub short : length others ≤ length js

abbrev stays : (rest left : List Piece) (js : List FormatLexeme) → left ≡ rest → AreFormatLexemes rest js → are_separated scale js ≡ true → Going left js
stays rest left js e spelled on = subst (λ p. Going p js) (sym e) (record { others = js; spelled = spelled; separated = on; balance = λ k. refl; short = omega arith })

-- what may stand behind one descriptor may stand behind another, and behind a scale factor
same_behind : (d e : FormatEdit) (js : List FormatLexeme) → are_separated (descriptor d) js ≡ true → are_separated (descriptor e) js ≡ true
same_behind d e [] on = refl
same_behind d e (j ∷ js) on = on

same_opening : (r q : ℕ) (js : List FormatLexeme) → are_separated (opening r) js ≡ true → are_separated (opening q) js ≡ true
same_opening r q [] on = on
same_opening r q (j ∷ js) on = on

true_or : (b : Bool) → (b || true) ≡ true
true_or true = refl
true_or false = refl

behind_scale : (js : List FormatLexeme) → are_separated other js ≡ true → are_separated scale js ≡ true
behind_scale [] on = refl
behind_scale (j ∷ js) on = and_from (may_follow scale j) (are_separated j js) (true_or (not (begins_item j))) (and_parts (may_follow other j) (are_separated j js) on).1

-- what stands behind a descriptor or another refused one ends it
pub ends_behind : (i : FormatLexeme) (rest : List Piece) (js : List FormatLexeme) → ((j : FormatLexeme) → may_follow i j ≡ may_end j) → AreFormatLexemes rest js → are_separated i js ≡ true → Ends rest
ends_behind i rest js f (lexemes_none e es) on = end_none (ap character_here e)
ends_behind i rest js f (lexemes_more first more j others e is uncut spelled es) on =
    let here : are_separated i (j ∷ others) ≡ true = ap (are_separated i) (sym es) ∙ on in
    subst Ends (sym e) (end_first first j more is (sym (f j) ∙ (and_parts (may_follow i j) (are_separated j others) here).0))

-- ---- digits before the next lexeme

odd_parts : (c : ℕ) → is_odd c ≡ false → (wants_number c ≡ false) × ((c == 46) ≡ false) × ((c == 69) ≡ false)
odd_parts c off = let a = or_parts (wants_number c || c == 46) (c == 69) off in let b = or_parts (wants_number c) (c == 46) a.0 in (b.0, b.1, a.1)

-- digits before a letter belong to the scale factor
count_left : (ds : List ℕ) (c : ℕ) (b : List ℕ) (rest : List Piece) → list_all is_digit ds ≡ true → is_digit c ≡ false → wants_number c ≡ false → (c == 46) ≡ false → behind_widths true (map plain (ds ++ c ∷ b) ++ rest) ≡ map plain (c ∷ b) ++ rest
count_left [] c b rest all off wants point = widths_off true (map plain (c ∷ b) ++ rest) off
count_left (d ∷ ds) c b rest all off wants point =
    ap (behind_widths true) (plain_append (d ∷ ds) (c ∷ b) rest) ∙ widths_step true (d ∷ ds) (map plain (c ∷ b) ++ rest) all off wants ∙ fraction_none true (map plain (c ∷ b) ++ rest) point

-- those before a letter that wants a number don't
number_kept : (ds : List ℕ) (c : ℕ) (b : List ℕ) (rest : List Piece) → list_all is_digit ds ≡ true → is_digit c ≡ false → wants_number c ≡ true → behind_widths true (map plain (ds ++ c ∷ b) ++ rest) ≡ map plain (ds ++ c ∷ b) ++ rest
number_kept ds c b rest all off wants =
    ap (behind_widths true) (plain_append ds (c ∷ b) rest) ∙ go ∙ sym (plain_append ds (c ∷ b) rest)
  where
    none : (b' : Bool) (p q : List Piece) → (if b' && false then p else q) ≡ q
    none true p q = refl
    none false p q = refl

    go : behind_widths true (map plain ds ++ (map plain (c ∷ b) ++ rest)) ≡ map plain ds ++ (map plain (c ∷ b) ++ rest)
    go =
        let p : List Piece = map plain ds ++ (map plain (c ∷ b) ++ rest) in
        ap (λ ps. if is_at_digit p && not (wants_number (character_here ps)) then behind_fraction true ps else p) (digits_left ds (map plain (c ∷ b) ++ rest) all off)
        ∙ ap (λ w. if is_at_digit p && not w then behind_fraction true (map plain (c ∷ b) ++ rest) else p) wants ∙ none (is_at_digit p) (behind_fraction true (map plain (c ∷ b) ++ rest)) p

-- the last digit of a text is that of its end
ends_same : (ds : List ℕ) (c : ℕ) (b : List ℕ) → ends_in_digit (map plain (ds ++ c ∷ b)) ≡ ends_in_digit (map plain (c ∷ b))
ends_same [] c b = refl
ends_same (d ∷ []) c b = refl
ends_same (d ∷ e ∷ ds) c b = ends_same (e ∷ ds) c b

uncut_same : (ds : List ℕ) (c : ℕ) (b : List ℕ) (rest : List Piece) → IsUncut (map plain (ds ++ c ∷ b)) rest → IsUncut (map plain (c ∷ b)) rest
uncut_same ds c b rest u = record { apart = ap (λ x. x && begins_in_digit rest) (sym (ends_same ds c b)) ∙ u.apart }

module _ (first rest : List Piece) (i : FormatLexeme) (js : List FormatLexeme) (uncut : IsUncut first rest) (spelled : AreFormatLexemes rest js) (on : are_separated scale (i ∷ js) ≡ true) where
  -- the next lexeme stays
  unchanged : IsFormatLexeme first i → behind_widths true (first ++ rest) ≡ first ++ rest → Going (behind_widths true (first ++ rest)) (i ∷ js)
  unchanged is e = stays (first ++ rest) _ (i ∷ js) e (lexemes_more first rest i js refl is uncut spelled refl) on

  -- the next lexeme stands without its count
  stripped : (ds : List ℕ) (c : ℕ) (b : List ℕ) (j j' : FormatLexeme) → first ≡ map plain (ds ++ c ∷ b) → i ≡ j → list_all is_digit ds ≡ true → is_digit c ≡ false → wants_number c ≡ false → (c == 46) ≡ false
      → IsFormatLexeme (map plain (c ∷ b)) j' → (are_separated scale (j ∷ js) ≡ true → are_separated scale (j' ∷ js) ≡ true) → ((k : ℕ) → balanced k (j ∷ js) ≡ balanced k (j' ∷ js)) → Going (behind_widths true (first ++ rest)) (i ∷ js)
  stripped ds c b j j' e same all off wants point is sep bal =
      record {
        others = j' ∷ js;
        spelled = lexemes_more (map plain (c ∷ b)) rest j' js (ap (λ p. behind_widths true (p ++ rest)) e ∙ count_left ds c b rest all off wants point) is (uncut_same ds c b rest (subst (λ p. IsUncut p rest) e uncut)) spelled refl;
        separated = sep (ap (λ k. are_separated scale (k ∷ js)) (sym same) ∙ on);
        balance = λ k. ap (λ x. balanced k (x ∷ js)) same ∙ bal k;
        short = omega arith;
      }

  -- a refused descriptor without what stands before its letters, or with it
  strip_scale : (before : List ℕ) (c : ℕ) (b : List ℕ) → IsFormatLexeme first i → first ≡ map plain (before ++ c ∷ b) → IsFormatLexeme (map plain (c ∷ b)) i → is_digit c ≡ false → wants_number c ≡ false → (c == 46) ≡ false
      → IsScale before → Going (behind_widths true (first ++ rest)) (i ∷ js)
  strip_scale before c b was e is off wants point (scale_none n) = unchanged was (widths_off true (first ++ rest) (ap (λ p. is_at_digit (p ++ rest)) e ∙ ap (λ t. is_at_digit (map plain (t ++ c ∷ b) ++ rest)) n ∙ off))
  strip_scale before c b was e is off wants point (scale_digits n) = stripped before c b i i e refl (unsigned_digits before n) off wants point is (λ s. s) (λ k. refl)
  strip_scale before c b was e is off wants point (scale_signed {digits = ds} sign n s m) =
      unchanged was (widths_off true (first ++ rest) (ap (λ p. is_at_digit (p ++ rest)) e ∙ ap (λ t. is_at_digit (map plain (t ++ c ∷ b) ++ rest)) n ∙ go s))
    where
      go : (sign ≡ 43) ⊎ (sign ≡ 45) → is_digit sign ≡ false
      go (inl x) = ap is_digit x
      go (inr x) = ap is_digit x

  alone : (letters behind : List ℕ) → IsWidths behind → IsOther letters (letters ++ behind)
  alone letters behind sized = record { before = []; behind = behind; whole = refl; scaled = scale_none refl; sized = sized }

  strip_other : (l t : List ℕ) → IsFormatLexeme first i → first ≡ map plain t → AreLetters l → (o : IsOther l t) → i ≡ other → Going (behind_widths true (first ++ rest)) (i ∷ js)
  strip_other l t was e are o is = go are
    where
      shape : (m : List ℕ) → l ≡ m → first ≡ map plain (o.before ++ (m ++ o.behind))
      shape m n = e ∙ ap (map plain) (o.whole ∙ ap (λ x. o.before ++ (x ++ o.behind)) n)

      text : (m : List ℕ) → AreLetters m → IsFormatLexeme (map plain (m ++ o.behind)) i
      text m am = lexeme_other m (m ++ o.behind) refl am (alone m o.behind o.sized) is

      go : AreLetters l → Going (behind_widths true (first ++ rest)) (i ∷ js)
      go (letters_e n) = strip_scale o.before 69 o.behind was (shape _ n) (text _ (letters_e refl)) refl refl refl o.scaled
      go (letters_f n) = strip_scale o.before 70 o.behind was (shape _ n) (text _ (letters_f refl)) refl refl refl o.scaled
      go (letters_d n) = strip_scale o.before 68 o.behind was (shape _ n) (text _ (letters_d refl)) refl refl refl o.scaled
      go (letters_g n) = strip_scale o.before 71 o.behind was (shape _ n) (text _ (letters_g refl)) refl refl refl o.scaled
      go (letters_t n) = strip_scale o.before 84 o.behind was (shape _ n) (text _ (letters_t refl)) refl refl refl o.scaled
      go (letters_tl n) = strip_scale o.before 84 (76 ∷ o.behind) was (shape _ n) (text _ (letters_tl refl)) refl refl refl o.scaled
      go (letters_tr n) = strip_scale o.before 84 (82 ∷ o.behind) was (shape _ n) (text _ (letters_tr refl)) refl refl refl o.scaled
      go (letters_s n) = strip_scale o.before 83 o.behind was (shape _ n) (text _ (letters_s refl)) refl refl refl o.scaled
      go (letters_sp n) = strip_scale o.before 83 (80 ∷ o.behind) was (shape _ n) (text _ (letters_sp refl)) refl refl refl o.scaled
      go (letters_ss n) = strip_scale o.before 83 (83 ∷ o.behind) was (shape _ n) (text _ (letters_ss refl)) refl refl refl o.scaled
      go (letters_bn n) = strip_scale o.before 66 (78 ∷ o.behind) was (shape _ n) (text _ (letters_bn refl)) refl refl refl o.scaled
      go (letters_bz n) = strip_scale o.before 66 (90 ∷ o.behind) was (shape _ n) (text _ (letters_bz refl)) refl refl refl o.scaled

  once : IsCount [] 1
  once = inl (refl, refl)

  -- the next lexeme, behind a scale factor without numbers
  strip : IsFormatLexeme first i → Going (behind_widths true (first ++ rest)) (i ∷ js)
  strip (lexeme_integers ds us r w e count width is) =
      stripped ds 73 us _ (descriptor (integers 1 w None)) e is (count_digits ds r count) refl refl refl (lexeme_integers [] us 1 w refl once width refl) (same_behind _ _ js) (λ k. refl)
  strip (lexeme_least ds us vs r w m e count width least le is) =
      stripped ds 73 (us ++ 46 ∷ vs) _ (descriptor (integers 1 w (Some m))) e is (count_digits ds r count) refl refl refl (lexeme_least [] us vs 1 w m refl once width least le refl) (same_behind _ _ js) (λ k. refl)
  strip (lexeme_logicals ds us r w e count width is) =
      stripped ds 76 us _ (descriptor (logicals 1 w)) e is (count_digits ds r count) refl refl refl (lexeme_logicals [] us 1 w refl once width refl) (same_behind _ _ js) (λ k. refl)
  strip (lexeme_texts ds r e count is) =
      stripped ds 65 [] _ (descriptor (texts 1 None)) e is (count_digits ds r count) refl refl refl (lexeme_texts [] 1 refl once refl) (same_behind _ _ js) (λ k. refl)
  strip (lexeme_width ds us r w e count width is) =
      stripped ds 65 us _ (descriptor (texts 1 (Some w))) e is (count_digits ds r count) refl refl refl (lexeme_width [] us 1 w refl once width refl) (same_behind _ _ js) (λ k. refl)
  strip (lexeme_blanks ds n e number is) =
      unchanged (lexeme_blanks ds n e number is) (ap (λ p. behind_widths true (p ++ rest)) e ∙ number_kept ds 88 [] rest (number_digits 1 ds n number) refl refl ∙ ap (λ p. p ++ rest) (sym e))
  strip (lexeme_quoted v e value is) = unchanged (lexeme_quoted v e value is) (widths_off true (first ++ rest) (ap (λ p. is_at_digit (p ++ rest)) e))
  strip (lexeme_counted ds v e number is) =
      unchanged (lexeme_counted ds v e number is)
      (ap (λ p. behind_widths true (p ++ rest)) e ∙ ap (behind_widths true) (append_assoc (map plain (ds ++ 72 ∷ [])) (whole v ∷ []) rest)
      ∙ number_kept ds 72 [] (whole v ∷ rest) (number_digits 1 ds (length v) number) refl refl
      ∙ sym (append_assoc (map plain (ds ++ 72 ∷ [])) (whole v ∷ []) rest) ∙ ap (λ p. p ++ rest) (sym e))
  strip (lexeme_slash e is) = unchanged (lexeme_slash e is) (widths_off true (first ++ rest) (ap (λ p. is_at_digit (p ++ rest)) e))
  strip (lexeme_opening ds r e count is) =
      stripped ds 40 [] _ (opening 1) e is (count_digits ds r count) refl refl refl (lexeme_opening [] 1 refl once refl) (same_opening r 1 js) (λ k. refl)
  strip (lexeme_closing e is) = unchanged (lexeme_closing e is) (widths_off true (first ++ rest) (ap (λ p. is_at_digit (p ++ rest)) e))
  strip (lexeme_comma e is) = unchanged (lexeme_comma e is) (widths_off true (first ++ rest) (ap (λ p. is_at_digit (p ++ rest)) e))
  strip (lexeme_colon e is) = unchanged (lexeme_colon e is) (widths_off true (first ++ rest) (ap (λ p. is_at_digit (p ++ rest)) e))
  strip (lexeme_scale t e o is) = strip_scale o.before 80 o.behind (lexeme_scale t e o is) (e ∙ ap (map plain) o.whole) (lexeme_scale (80 ∷ o.behind) refl (alone (80 ∷ []) o.behind o.sized) is) refl refl refl o.scaled
  strip (lexeme_other l t e are o is) = strip_other l t (lexeme_other l t e are o is) e are o is

-- ---- E and digits behind a point

pointed : (ds : List ℕ) (more : List Piece) → is_unsigned ds ≡ true → behind_exponent true (plain 69 ∷ (map plain ds ++ plain 46 ∷ more)) ≡ plain 69 ∷ (map plain ds ++ plain 46 ∷ more)
pointed ds more on =
    let x : List Piece = map plain ds ++ plain 46 ∷ more in
    ap (λ ps. if is_at_digit x && not (character_here ps == 46) then ps else plain 69 ∷ x) (digits_left ds (plain 46 ∷ more) (unsigned_digits ds on) refl) ∙ go (is_at_digit x) x
  where
    go : (b : Bool) (x : List Piece) → (if b && false then plain 46 ∷ more else plain 69 ∷ x) ≡ plain 69 ∷ x
    go true x = refl
    go false x = refl

bare : (rest : List Piece) → is_at_digit rest ≡ false → behind_exponent true (plain 69 ∷ rest) ≡ plain 69 ∷ rest
bare rest off = ap (λ b. if b && not (character_here (behind_digits rest) == 46) then behind_digits rest else plain 69 ∷ rest) off

-- the next lexeme behind a scale factor with a point
exponent_going : (rest : List Piece) (js : List FormatLexeme) → AreFormatLexemes rest js → are_separated scale js ≡ true → Going (behind_exponent true rest) js
exponent_going rest js (lexemes_none e es) on = stays rest _ js (exponent_none true rest (ap (λ p. character_here p == 69) e)) (lexemes_none e es) on
exponent_going rest js (lexemes_more first more i others e is uncut spelled es) on = go (first_even first i more is)
  where
    same : AreFormatLexemes rest js
    same = lexemes_more first more i others e is uncut spelled es

    dropped : (behind : List ℕ) → i ≡ other → rest ≡ plain 69 ∷ (map plain behind ++ more) → are_separated other others ≡ true → Ends more → IsWidths behind → Going (behind_exponent true rest) js
    dropped behind o shape sep ends (widths_none n) = stays rest _ js (ap (behind_exponent true) (shape ∙ ap (λ t. plain 69 ∷ (map plain t ++ more)) n) ∙ bare more (end_digit more ends) ∙ sym (shape ∙ ap (λ t. plain 69 ∷ (map plain t ++ more)) n)) same on
    dropped behind o shape sep ends (widths_width n) =
        subst (λ p. Going p js) (sym (ap (behind_exponent true) shape ∙ exponent_step true behind more n (end_digit more ends) (end_test (λ c. c == 46) (character_here more) refl refl refl refl refl ends)))
        (record { others = others; spelled = spelled; separated = behind_scale others sep; balance = λ k. ap (balanced k) (es ∙ ap (λ x. x ∷ others) o); short = omega (arith, ap length es) })
    dropped behind o shape sep ends (widths_point w d n a b) =
        let full : rest ≡ plain 69 ∷ (map plain w ++ plain 46 ∷ (map plain d ++ more)) = shape ∙ ap (λ t. plain 69 ∷ (map plain t ++ more)) n ∙ ap (λ (p : List Piece). plain 69 ∷ p) (plain_append w (46 ∷ d) more) in
        stays rest _ js (ap (behind_exponent true) full ∙ pointed w (map plain d ++ more) a ∙ sym full) same on
    dropped behind o shape sep ends (widths_exponent w d x n a b c) =
        let full : rest ≡ plain 69 ∷ (map plain w ++ plain 46 ∷ (map plain (d ++ 69 ∷ x) ++ more)) = shape ∙ ap (λ t. plain 69 ∷ (map plain t ++ more)) n ∙ ap (λ (p : List Piece). plain 69 ∷ p) (plain_append w (46 ∷ (d ++ 69 ∷ x)) more) in
        stays rest _ js (ap (behind_exponent true) full ∙ pointed w (map plain (d ++ 69 ∷ x) ++ more) a ∙ sym full) same on

    go : Even (first ++ more) ⊎ IsE first i → Going (behind_exponent true rest) js
    go (inl off) = stays rest _ js (exponent_none true rest (ap (λ p. character_here p == 69) e ∙ (odd_parts (character_here (first ++ more)) off).2)) same on
    go (inr x) =
        let sep : are_separated i others ≡ true = (and_parts (may_follow scale i) (are_separated i others) (ap (are_separated scale) (sym es) ∙ on)).1 in
        let here : are_separated other others ≡ true = ap (λ j. are_separated j others) (sym x.is) ∙ sep in
        dropped x.behind x.is (e ∙ ap (λ p. p ++ more) x.whole) here (ends_behind other more others (λ j. refl) spelled here) x.sized

-- ---- behind a scale factor

apart : (rest : List Piece) (js : List FormatLexeme) → AreFormatLexemes rest js → is_at_digit rest ≡ false → IsApart rest
apart rest js (lexemes_none e es) off = record { digit = off; point = ap (λ p. character_here p == 46) e; wants = ap (λ p. wants_number (character_here p)) e }
apart rest js (lexemes_more first more i others e is uncut spelled es) off = go (first_even first i more is)
  where
    go : Even (first ++ more) ⊎ IsE first i → IsApart rest
    go (inl even) = let parts = odd_parts (character_here (first ++ more)) even in record { digit = off; point = ap (λ p. character_here p == 46) e ∙ parts.1; wants = ap (λ p. wants_number (character_here p)) e ∙ parts.0 }
    go (inr x) = record { digit = off; point = ap (λ p. character_here p == 46) (e ∙ ap (λ p. p ++ more) x.whole); wants = ap (λ p. wants_number (character_here p)) (e ∙ ap (λ p. p ++ more) x.whole) }

digits_last : (ds : List ℕ) → is_unsigned ds ≡ true → ends_in_digit (map plain ds) ≡ true
digits_last [] on = on
digits_last (d ∷ []) on = (and_parts (is_digit d) true on).0
digits_last (d ∷ e ∷ ds) on = digits_last (e ∷ ds) (and_parts (is_digit d) (list_all is_digit (e ∷ ds)) on).1

more_last : (c : ℕ) (t : List ℕ) → ends_in_digit (map plain t) ≡ true → ends_in_digit (map plain (c ∷ t)) ≡ true
more_last c [] on = absurd cc
more_last c (d ∷ t) on = on

widths_last : (behind : List ℕ) → IsWidths behind → (behind ≡ []) ⊎ (ends_in_digit (map plain behind) ≡ true)
widths_last behind (widths_none e) = inl e
widths_last behind (widths_width on) = inr (digits_last behind on)
widths_last behind (widths_point w d e on also) = inr (ap (λ t. ends_in_digit (map plain t)) e ∙ ends_same w 46 d ∙ more_last 46 d (digits_last d also))
widths_last behind (widths_exponent w d x e on also last) =
    inr (ap (λ t. ends_in_digit (map plain t)) e ∙ ends_same w 46 (d ++ 69 ∷ x) ∙ ends_same (46 ∷ d) 69 x ∙ more_last 69 x (digits_last x last))

-- the lexemes behind a scale factor with its numbers
pub scale_going : (before behind : List ℕ) (rest : List Piece) (js : List FormatLexeme) → IsWidths behind → IsUncut (map plain (before ++ 80 ∷ behind)) rest → AreFormatLexemes rest js → are_separated scale js ≡ true
    → Going (behind_widths true (map plain behind ++ rest)) js
scale_going before behind rest js sized uncut spelled on = go (widths_last behind sized)
  where
    none : (js' : List FormatLexeme) → AreFormatLexemes rest js' → are_separated scale js' ≡ true → Going (behind_widths true rest) js'
    none js' (lexemes_none e es) sep = stays rest _ js' (widths_off true rest (ap is_at_digit e)) (lexemes_none e es) sep
    none js' (lexemes_more first more i others e is u s es) sep =
        subst (Going (behind_widths true rest)) (sym es) (subst (λ p. Going (behind_widths true p) (i ∷ others)) (sym e) (strip first more i others u s (ap (are_separated scale) (sym es) ∙ sep) is))

    stays_or : is_at_digit rest ≡ false → (behind_widths true (map plain behind ++ rest) ≡ rest) ⊎ (behind_widths true (map plain behind ++ rest) ≡ behind_exponent true rest) → Going (behind_widths true (map plain behind ++ rest)) js
    stays_or off (inl e) = stays rest _ js e spelled on
    stays_or off (inr e) = subst (λ p. Going p js) (sym e) (exponent_going rest js spelled on)

    go : (behind ≡ []) ⊎ (ends_in_digit (map plain behind) ≡ true) → Going (behind_widths true (map plain behind ++ rest)) js
    go (inl e) = subst (λ t. Going (behind_widths true (map plain t ++ rest)) js) (sym e) (none js spelled on)
    go (inr last) =
        let off : is_at_digit rest ≡ false = sym (same_start rest) ∙ ap (λ b. b && begins_in_digit rest) (sym (ends_same before 80 behind ∙ more_last 80 behind last)) ∙ uncut.apart in
        stays_or off (sized_left true behind rest sized (apart rest js spelled off))
