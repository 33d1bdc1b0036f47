-- Each lexeme is read, where what may follow it stands behind it.
use Rattle.std.proofs.Common.{◌≡◌, ◌≢◌, ◌⊎◌, inl, inr, ℕ, ◌≤◌, Bool, true, false, ◌&&◌, ◌==◌, List, [], ◌∷◌, ◌++◌, map, length, Option, Some, None, refl, sym, ap, ◌∙◌, subst, append_assoc, arith}
use Rattle.std.specs.Prelude.{if◌then◌else◌}
use Rattle.std.specs.List.{list_all}
use Rattle.std.specs.Option.{option_map, option_and_then}
use Rattle.std.proofs.lemmas.Bool.{le-leb, eqb-true as eqb_is}
use Rattle.text_base.specs.Chars.{is_digit}
use Rattle.text_base.specs.Pieces.{Piece, plain, whole}
use Rattle.text_base.specs.Formats.{integers, logicals, texts, blanks, text, FormatLexeme, descriptor, opening, is_unsigned, IsNumber, IsCount, doubled, quoted, IsScale, scale_none, scale_digits, scale_signed}
use Rattle.format77.specs.Reading.{digits_here, behind_digits, character_here, behind_one, number_of, count_of, Read, giving, least_of, integers_at, texts_of, undoubled, text_of, counted_at, is_at_digit, sort_of, refused_at, signed_at, lexeme_of, lexeme_behind, lexeme_at}
use Rattle.format77.proofs.Digits.{plain_append, digits_found, digits_left, number_found, count_found, number_digits, count_digits}

-- what stands behind an item: nothing, or a mark
pub data IsEnd (c : ℕ) : Type 0 where
  end_none : c ≡ 0 → IsEnd c
  end_comma : c ≡ 44 → IsEnd c
  end_closing : c ≡ 41 → IsEnd c
  end_slash : c ≡ 47 → IsEnd c
  end_colon : c ≡ 58 → IsEnd c

-- what holds of none of these
pub end_test : (test : ℕ → Bool) (c : ℕ) → test 0 ≡ false → test 44 ≡ false → test 41 ≡ false → test 47 ≡ false → test 58 ≡ false → IsEnd c → test c ≡ false
end_test test c a b d e f (end_none is) = ap test is ∙ a
end_test test c a b d e f (end_comma is) = ap test is ∙ b
end_test test c a b d e f (end_closing is) = ap test is ∙ d
end_test test c a b d e f (end_slash is) = ap test is ∙ e
end_test test c a b d e f (end_colon is) = ap test is ∙ f

abbrev pub Ends : List Piece → Type 0
Ends rest = IsEnd (character_here rest)

pub end_digit : (rest : List Piece) → Ends rest → is_at_digit rest ≡ false
end_digit rest = end_test is_digit (character_here rest) refl refl refl refl refl

two : {A B C : Type 0} (f : A → B → C) {a b : A} {c d : B} → a ≡ b → c ≡ d → f a c ≡ f b d
two f {a} {b} {c} {d} p q = ap (λ x. f x c) p ∙ ap (f b) q

three : {A B C D : Type 0} (f : A → B → C → D) {a b : A} {c d : B} {e g : C} → a ≡ b → c ≡ d → e ≡ g → f a c e ≡ f b d g
three f {a} {b} {c} {d} {e} {g} p q r = ap (λ x. f x c e) p ∙ ap (λ x. f b x e) q ∙ ap (f b d) r

-- ---- digits and a character

pub at_character : (ds : List ℕ) (c : ℕ) (b : List ℕ) (rest : List Piece) → list_all is_digit ds ≡ true → is_digit c ≡ false → lexeme_at (map plain (ds ++ c ∷ b) ++ rest) ≡ lexeme_of (sort_of c) ds (map plain b ++ rest)
unfolding lexeme_at
at_character ds c b rest all off =
    ap lexeme_at (plain_append ds (c ∷ b) rest) ∙ two lexeme_behind (digits_found ds (plain c ∷ (map plain b ++ rest)) all off) (digits_left ds (plain c ∷ (map plain b ++ rest)) all off)

-- ---- accepted lexemes

abbrev integers_by : Option ℕ → Option ℕ → List Piece → Read
integers_by r w left = option_and_then (λ n. option_and_then (λ k. integers_at n k left) w) r

number_here : (least : ℕ) (us : List ℕ) (w : ℕ) (rest : List Piece) → IsNumber least us w → is_at_digit rest ≡ false → number_of least (digits_here (map plain us ++ rest)) ≡ Some w
number_here least us w rest number off = ap (number_of least) (digits_found us rest (number_digits least us w number) off) ∙ number_found least us w number

number_left : (least : ℕ) (us : List ℕ) (w : ℕ) (rest : List Piece) → IsNumber least us w → is_at_digit rest ≡ false → behind_digits (map plain us ++ rest) ≡ rest
number_left least us w rest number off = digits_left us rest (number_digits least us w number) off

pub integers_found : (ds us : List ℕ) (r w : ℕ) (rest : List Piece) → IsCount ds r → IsNumber 1 us w → Ends rest → lexeme_at (map plain (ds ++ 73 ∷ us) ++ rest) ≡ Some (descriptor (integers r w None), rest)
integers_found ds us r w rest count width ends =
    let off = end_digit rest ends in
    at_character ds 73 us rest (count_digits ds r count) refl
    ∙ three integers_by (count_found ds r count) (number_here 1 us w rest width off) (number_left 1 us w rest width off)
    ∙ ap (λ b. if b then giving (behind_digits (behind_one rest)) (option_and_then (least_of r w) (number_of 0 (digits_here (behind_one rest)))) else Some (descriptor (integers r w None), rest))
    (end_test (λ c. c == 46) (character_here rest) refl refl refl refl refl ends)

pub least_found : (ds us vs : List ℕ) (r w m : ℕ) (rest : List Piece) → IsCount ds r → IsNumber 1 us w → IsNumber 0 vs m → m ≤ w → Ends rest
    → lexeme_at (map plain (ds ++ 73 ∷ (us ++ 46 ∷ vs)) ++ rest) ≡ Some (descriptor (integers r w (Some m)), rest)
least_found ds us vs r w m rest count width least le ends =
    let off = end_digit rest ends in
    let more : List Piece = plain 46 ∷ (map plain vs ++ rest) in
    at_character ds 73 (us ++ 46 ∷ vs) rest (count_digits ds r count) refl
    ∙ ap (λ p. integers_by (count_of ds) (number_of 1 (digits_here p)) (behind_digits p)) (plain_append us (46 ∷ vs) rest)
    ∙ three integers_by (count_found ds r count) (number_here 1 us w more width refl) (number_left 1 us w more width refl)
    ∙ two (λ left o. giving left (option_and_then (least_of r w) o)) (number_left 0 vs m rest least off) (number_here 0 vs m rest least off)
    ∙ ap (λ b. giving rest (if b then Some (descriptor (integers r w (Some m))) else None)) (le-leb m w le)

pub logicals_found : (ds us : List ℕ) (r w : ℕ) (rest : List Piece) → IsCount ds r → IsNumber 1 us w → Ends rest → lexeme_at (map plain (ds ++ 76 ∷ us) ++ rest) ≡ Some (descriptor (logicals r w), rest)
logicals_found ds us r w rest count width ends =
    let off = end_digit rest ends in
    at_character ds 76 us rest (count_digits ds r count) refl
    ∙ three (λ o k left. giving left (option_and_then (λ n. option_map (λ j. descriptor (logicals n j)) k) o)) (count_found ds r count) (number_here 1 us w rest width off) (number_left 1 us w rest width off)

texts_by : (us : List ℕ) (r w : ℕ) → IsNumber 1 us w → texts_of r us ≡ Some (descriptor (texts r (Some w)))
texts_by [] r w number = absurd cc
texts_by (c ∷ us) r w number = ap (option_map (λ k. descriptor (texts r (Some k)))) (number_found 1 (c ∷ us) w number)

pub width_found : (ds us : List ℕ) (r w : ℕ) (rest : List Piece) → IsCount ds r → IsNumber 1 us w → Ends rest → lexeme_at (map plain (ds ++ 65 ∷ us) ++ rest) ≡ Some (descriptor (texts r (Some w)), rest)
width_found ds us r w rest count width ends =
    let off = end_digit rest ends in
    at_character ds 65 us rest (count_digits ds r count) refl
    ∙ three (λ o k left. giving left (option_and_then (λ n. texts_of n k) o)) (count_found ds r count) (digits_found us rest (number_digits 1 us w width) off) (number_left 1 us w rest width off)
    ∙ ap (giving rest) (texts_by us r w width)

pub texts_found : (ds : List ℕ) (r : ℕ) (rest : List Piece) → IsCount ds r → Ends rest → lexeme_at (map plain (ds ++ 65 ∷ []) ++ rest) ≡ Some (descriptor (texts r None), rest)
texts_found ds r rest count ends =
    let off = end_digit rest ends in
    at_character ds 65 [] rest (count_digits ds r count) refl
    ∙ three (λ o k left. giving left (option_and_then (λ n. texts_of n k) o)) (count_found ds r count) (digits_found [] rest refl off) (digits_left [] rest refl off)

pub blanks_found : (ds : List ℕ) (n : ℕ) (rest : List Piece) → IsNumber 1 ds n → lexeme_at (map plain (ds ++ 88 ∷ []) ++ rest) ≡ Some (descriptor (blanks n), rest)
blanks_found ds n rest number = at_character ds 88 [] rest (number_digits 1 ds n number) refl ∙ ap (λ o. giving rest (option_map (λ k. descriptor (blanks k)) o)) (number_found 1 ds n number)

pub opening_found : (ds : List ℕ) (r : ℕ) (rest : List Piece) → IsCount ds r → lexeme_at (map plain (ds ++ 40 ∷ []) ++ rest) ≡ Some (opening r, rest)
opening_found ds r rest count = at_character ds 40 [] rest (count_digits ds r count) refl ∙ ap (λ o. giving rest (option_map opening o)) (count_found ds r count)

eqb_same : (n : ℕ) → (n == n) ≡ true
eqb_same n = grind arith

pub counted_found : (ds value : List ℕ) (rest : List Piece) → IsNumber 1 ds (length value) → lexeme_at ((map plain (ds ++ 72 ∷ []) ++ whole value ∷ []) ++ rest) ≡ Some (descriptor (text value), rest)
counted_found ds value rest number =
    ap lexeme_at (append_assoc (map plain (ds ++ 72 ∷ [])) (whole value ∷ []) rest)
    ∙ at_character ds 72 [] (whole value ∷ rest) (number_digits 1 ds (length value) number) refl
    ∙ ap (option_and_then (λ n. counted_at n (whole value ∷ rest))) (number_found 1 ds (length value) number)
    ∙ ap (λ b. if b then Some (descriptor (text value), rest) else None) (eqb_same (length value))

undoubled_found : (v : List ℕ) → undoubled (doubled v ++ 39 ∷ []) ≡ Some v
undoubled_found [] = refl
undoubled_found (c ∷ v) = go (c == 39) refl (undoubled_found v)
  where
    other_start : (c == 39) ≡ false → (u : List ℕ) → undoubled (c ∷ (u ++ 39 ∷ [])) ≡ option_map (λ w. c ∷ w) (undoubled (u ++ 39 ∷ []))
    other_start off [] = ap (λ b. if b then (if 39 == 39 then option_map (λ w. 39 ∷ w) (undoubled []) else None) else option_map (λ w. c ∷ w) (undoubled (39 ∷ []))) off
    other_start off (d ∷ u) = ap (λ b. if b then (if d == 39 then option_map (λ w. 39 ∷ w) (undoubled (u ++ 39 ∷ [])) else None) else option_map (λ w. c ∷ w) (undoubled (d ∷ (u ++ 39 ∷ [])))) off

    go : (b : Bool) → (c == 39) ≡ b → undoubled (doubled v ++ 39 ∷ []) ≡ Some v → undoubled ((if b then 39 ∷ 39 ∷ doubled v else c ∷ doubled v) ++ 39 ∷ []) ≡ Some (c ∷ v)
    go true on e = ap (option_map (λ w. 39 ∷ w)) e ∙ ap (λ x. Some (x ∷ v)) (sym (eqb_is c 39 on))
    go false off e = other_start off (doubled v) ∙ ap (option_map (λ w. c ∷ w)) e

text_found : (v : List ℕ) → v ≢ [] → text_of v ≡ Some (descriptor (text v))
text_found [] off = absurd (off refl)
text_found (c ∷ v) off = refl

pub quoted_found : (v : List ℕ) (rest : List Piece) → v ≢ [] → lexeme_at (whole (quoted v) ∷ rest) ≡ Some (descriptor (text v), rest)
unfolding lexeme_at
quoted_found v rest off = ap (λ o. giving rest (option_and_then text_of o)) (undoubled_found v) ∙ ap (giving rest) (text_found v off)

-- a mark
pub mark_found : (c : ℕ) (i : FormatLexeme) (rest : List Piece) → is_digit c ≡ false → lexeme_of (sort_of c) [] rest ≡ Some (i, rest) → lexeme_at (plain c ∷ rest) ≡ Some (i, rest)
mark_found c i rest off e = at_character [] c [] rest refl off ∙ e

-- ---- refused descriptors

pub unsigned_digits : (ds : List ℕ) → is_unsigned ds ≡ true → list_all is_digit ds ≡ true
unsigned_digits [] e = refl
unsigned_digits (c ∷ ds) e = e

-- digits stand here
pub at_unsigned : (ds : List ℕ) (rest : List Piece) → is_unsigned ds ≡ true → is_at_digit (map plain ds ++ rest) ≡ true
at_unsigned [] rest e = absurd cc
at_unsigned (c ∷ ds) rest e = (and_first (is_digit c) (list_all is_digit ds) e)
  where
    and_first : (a b : Bool) → (a && b) ≡ true → a ≡ true
    and_first true b f = refl
    and_first false b f = f

-- what may stand before the letters doesn't change how they are read
pub scaled_at : (before : List ℕ) (c : ℕ) (b : List ℕ) (rest : List Piece) → is_digit c ≡ false → ((ds : List ℕ) (left : List Piece) → lexeme_of (sort_of c) ds left ≡ refused_at (sort_of c) left) → IsScale before
    → lexeme_at (map plain (before ++ c ∷ b) ++ rest) ≡ refused_at (sort_of c) (map plain b ++ rest)
scaled_at before c b rest off same (scale_none e) = ap (λ t. lexeme_at (map plain (t ++ c ∷ b) ++ rest)) e ∙ at_character [] c b rest refl off ∙ same [] (map plain b ++ rest)
scaled_at before c b rest off same (scale_digits e) = at_character before c b rest (unsigned_digits before e) off ∙ same before (map plain b ++ rest)
scaled_at before c b rest off same (scale_signed {digits = ds} sign shape is e) =
    let more : List Piece = plain c ∷ (map plain b ++ rest) in
    ap (λ t. lexeme_at (map plain (t ++ c ∷ b) ++ rest)) shape ∙ sign_at is ∙ ap signed_at (plain_append ds (c ∷ b) rest)
    ∙ ap (λ b'. if b' then refused_at (sort_of (character_here (behind_digits (map plain ds ++ more)))) (behind_one (behind_digits (map plain ds ++ more))) else None) (at_unsigned ds more e)
    ∙ ap (λ ps. refused_at (sort_of (character_here ps)) (behind_one ps)) (digits_left ds more (unsigned_digits ds e) off)
  where
    sign_at : (sign ≡ 43) ⊎ (sign ≡ 45) → lexeme_at (map plain (sign ∷ (ds ++ c ∷ b)) ++ rest) ≡ signed_at (map plain (ds ++ c ∷ b) ++ rest)
    sign_at (inl s) = subst (λ x. lexeme_at (map plain (x ∷ (ds ++ c ∷ b)) ++ rest) ≡ signed_at (map plain (ds ++ c ∷ b) ++ rest)) (sym s) (at_character [] 43 (ds ++ c ∷ b) rest refl refl)
    sign_at (inr s) = subst (λ x. lexeme_at (map plain (x ∷ (ds ++ c ∷ b)) ++ rest) ≡ signed_at (map plain (ds ++ c ∷ b) ++ rest)) (sym s) (at_character [] 45 (ds ++ c ∷ b) rest refl refl)
