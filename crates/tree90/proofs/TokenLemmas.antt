-- The tokens of names, constants, operators and marks.
use Rattle.std.proofs.Common.{◌≡◌, ◌⊎◌, inl, inr, ℕ, ◌-◌, ◌<◌, ◌==◌, Bool, true, false, not, ◌&&◌, ◌||◌, List, [], ◌∷◌, ◌++◌, length, codes, refl, sym, ap, ◌∙◌, arith, append_assoc}
use Rattle.std.specs.Prelude.{nat_le, if◌then◌else◌}
use Rattle.std.specs.List.{list_all}
use Rattle.std.specs.Str.Parse.{AllDigits}
use Rattle.std.proofs.lemmas.Bool.{leb-true, eqb-true, ne_eqb, lt-leb, le-leb, not-true, or_cases, both_ways, and_from, and_parts}
use Rattle.std.proofs.lemmas.List.{append-nil}
use Rattle.std.proofs.lemmas.Str.Parse.{digit_from_value}
use Rattle.text_base.specs.Chars.{is_upper, is_digit, is_name_byte, is_name, to_upper}
use Rattle.text_base.proofs.CharTests.{all_append}
use Rattle.text_base.specs.Trees.{UnaryOp, plus, minus, negation, BinaryOp, power}
use Rattle.tree90.specs.FreeTokens.{Token, plain, quoted, is_word_byte, is_pair, joins, within, doubling, attach, begins_quote, tokens_from, tokens}
use Rattle.tree90.specs.FreeExpressions.{operator, prefix}
use Rattle.tree90.specs.Printed.{sign_text, operator_text, doubled}

-- ---- tests

-- no byte is LF
abbrev pub has_no_break : List ℕ → Bool
has_no_break = list_all (λ c. not (c == 10))

-- a text that goes on with no word and no apostrophe
abbrev pub ends : List ℕ → Bool
ends [] = true
ends (c ∷ t) = not (is_word_byte c) && not (c == 39)

-- ---- bytes of words

-- a byte of names isn't one that no name has
pub apart : (c k : ℕ) → is_name_byte c ≡ true → is_name_byte k ≡ false → (c == k) ≡ false
apart c k e f = ne_eqb c k (λ is. both_ways (is_name_byte k) f (ap is_name_byte (sym is) ∙ e))

-- bytes of names lie below the lower-case letters
below_lower : (c : ℕ) → is_name_byte c ≡ true → c < 97
below_lower c e = go (or_cases _ _ e)
  where
    upper_or_digit : (is_upper c ≡ true) ⊎ (is_digit c ≡ true) → c < 97
    upper_or_digit (inl u) = omega (arith, leb-true c 90 (and_parts _ _ u).1)
    upper_or_digit (inr d) = omega (arith, leb-true c 57 (and_parts _ _ d).1)

    go : ((is_upper c || is_digit c) ≡ true) ⊎ ((c == 95) ≡ true) → c < 97
    go (inl other) = upper_or_digit (or_cases _ _ other)
    go (inr line) = omega (arith, eqb-true c 95 line)

-- they are read as they stand
same : (c : ℕ) → is_name_byte c ≡ true → to_upper c ≡ c
same c e = ap (λ b. if b && nat_le c 122 then c - 32 else c) (lt-leb 97 c (below_lower c e))

-- and belong to words
word_byte : (c : ℕ) → is_name_byte c ≡ true → is_word_byte c ≡ true
word_byte c e = ap (λ x. is_upper x || is_digit c || c == 95) (same c e) ∙ e

-- and to no operator or mark
no_pair : (c d : ℕ) → is_name_byte c ≡ true → is_pair c d ≡ false
no_pair c d e = simp (apart c 42 e refl, apart c 47 e refl, apart c 61 e refl, apart c 60 e refl, apart c 62 e refl, apart c 58 e refl)

-- names have no LF
pub name_bytes_unbroken : (w : List ℕ) → list_all is_name_byte w ≡ true → has_no_break w ≡ true
name_bytes_unbroken [] e = refl
name_bytes_unbroken (c ∷ w) e =
    let parts = and_parts (is_name_byte c) (list_all is_name_byte w) e in
    and_from (not (c == 10)) (has_no_break w) (ap not (apart c 10 parts.0 refl)) (name_bytes_unbroken w parts.1)

-- ---- words

-- a byte of names is joined to the next by the table alone
byte_step : (c : ℕ) (t : List ℕ) → is_name_byte c ≡ true → tokens (c ∷ t) ≡ (if joins false c t then attach c (tokens t) else plain (c ∷ []) ∷ tokens t)
byte_step c t e = simp (apart c 32 e refl, apart c 39 e refl, apart c 46 e refl, same c e)

-- a byte of a word before no word
byte_ends : (c : ℕ) (rest : List ℕ) → is_name_byte c ≡ true → ends rest ≡ true → joins false c rest ≡ false
byte_ends c [] e stop = refl
byte_ends c (d ∷ rest) e stop =
    let apart_next = not-true (is_word_byte d) (and_parts _ _ stop).0 in
    simp (word_byte c e, apart_next, apart c 46 e refl, no_pair c d e)

-- two bytes of a word
byte_goes_on : (c d : ℕ) (t : List ℕ) → is_name_byte c ≡ true → is_name_byte d ≡ true → joins false c (d ∷ t) ≡ true
byte_goes_on c d t e f = simp (word_byte c e, word_byte d f)

-- a word is a token
pub word_token : (w rest : List ℕ) → list_all is_name_byte w ≡ true → 0 < length w → ends rest ≡ true → tokens (w ++ rest) ≡ plain w ∷ tokens rest
word_token [] rest bytes some stop = absurd (omega arith)
word_token (c ∷ []) rest bytes some stop =
    let e = (and_parts (is_name_byte c) (list_all is_name_byte []) bytes).0 in
    byte_step c rest e ∙ ap (λ b. if b then attach c (tokens rest) else plain (c ∷ []) ∷ tokens rest) (byte_ends c rest e stop)
word_token (c ∷ d ∷ w) rest bytes some stop =
    let first = and_parts (is_name_byte c) (list_all is_name_byte (d ∷ w)) bytes in
    let second = and_parts (is_name_byte d) (list_all is_name_byte w) first.1 in
    let t = d ∷ (w ++ rest) in
    byte_step c t first.0
    ∙ ap (λ b. if b then attach c (tokens t) else plain (c ∷ []) ∷ tokens t) (byte_goes_on c d (w ++ rest) first.0 second.0)
    ∙ ap (attach c) (word_token (d ∷ w) rest first.1 (omega arith) stop)

-- ---- names and digits

-- one byte of names or more
pub record NameWord (x : List ℕ) : Type 0 where
  pub bytes : list_all is_name_byte x ≡ true
  pub some : 0 < length x

-- a name is a word
pub name_word : (x : List ℕ) → is_name x ≡ true → NameWord x
name_word x named = record { bytes = (and_parts _ _ (and_parts _ _ named).1).0; some = not_empty x named }
  where
    not_empty : (x : List ℕ) → is_name x ≡ true → 0 < length x
    not_empty [] named = absurd cc
    not_empty (c ∷ x) named = omega arith

-- a name by itself is one token
pub name_token : (x : List ℕ) → is_name x ≡ true → tokens x ≡ plain x ∷ []
name_token x named =
    let w = name_word x named in
    ap tokens (sym (append-nil x)) ∙ word_token x [] w.bytes w.some refl

-- digits by their values are digits
pub digits_are : (ds : List ℕ) → AllDigits 10 ds → list_all is_digit ds ≡ true
digits_are [] d = refl
digits_are (c ∷ ds) d =
    let range = digit_from_value c d.0 in
    and_from (is_digit c) (list_all is_digit ds) (and_from (nat_le 48 c) (nat_le c 57) (le-leb 48 c range.0) (le-leb c 57 range.1)) (digits_are ds d.1)

-- ---- character constants

-- a text that goes on with no apostrophe
no_quote : (rest : List ℕ) → ends rest ≡ true → begins_quote rest ≡ false
no_quote [] stop = refl
no_quote (c ∷ rest) stop = not-true (c == 39) (and_parts _ _ stop).1

-- the rest of a character constant, up to its end
quoted_rest : (cs rest : List ℕ) → ends rest ≡ true → tokens_from within (doubled cs ++ 39 ∷ rest) ≡ quoted cs ∷ tokens rest
quoted_rest [] rest stop = ap (λ b. if b then attach 39 (tokens_from doubling rest) else quoted [] ∷ tokens rest) (no_quote rest stop)
quoted_rest (c ∷ cs) rest stop =
    ap (tokens_from within) (append_assoc (if c == 39 then 39 ∷ 39 ∷ [] else c ∷ []) (doubled cs) (39 ∷ rest))
    ∙ go (c == 39) refl
    ∙ ap (attach c) (quoted_rest cs rest stop)
  where
    t : List ℕ
    t = doubled cs ++ 39 ∷ rest

    go : (b : Bool) → (c == 39) ≡ b → tokens_from within ((if b then 39 ∷ 39 ∷ [] else c ∷ []) ++ t) ≡ attach c (tokens_from within t)
    go true is = ap (λ d. attach d (tokens_from within t)) (sym (eqb-true c 39 is))
    go false is = ap (λ b. if b then (if begins_quote t then attach 39 (tokens_from doubling t) else quoted [] ∷ tokens t) else attach c (tokens_from within t)) is

-- a character constant is a token
pub quoted_token : (cs rest : List ℕ) → ends rest ≡ true → tokens (((39 ∷ []) ++ doubled cs ++ 39 ∷ []) ++ rest) ≡ quoted cs ∷ tokens rest
quoted_token cs rest stop = ap (tokens_from within) (append_assoc (doubled cs) (39 ∷ []) rest) ∙ quoted_rest cs rest stop

-- ---- texts that are read as some tokens

-- The text has no LF, and in front of what is so it is read as these tokens.
pub record Reads (P : List ℕ → Type 0) (text : List ℕ) (ts : List Token) : Type 0 where
  pub unbroken : has_no_break text ≡ true
  pub read : (rest : List ℕ) → P rest → tokens (text ++ rest) ≡ ts ++ tokens rest

-- in front of anything
abbrev pub Any : List ℕ → Type 0
Any rest = Unit {0}

-- in front of what ends a word, and begins no apostrophe
abbrev pub Ends : List ℕ → Type 0
Ends rest = ends rest ≡ true

-- in front of a blank
abbrev pub BeforeBlank : List ℕ → Type 0
BeforeBlank rest = (t : List ℕ) × (rest ≡ 32 ∷ t)

-- a text that begins with a colon, and one that doesn't
abbrev pub begins_colon : List ℕ → Bool
begins_colon [] = false
begins_colon (c ∷ t) = c == 58

abbrev pub BeforeNoColon : List ℕ → Type 0
BeforeNoColon rest = begins_colon rest ≡ false

-- one text after another
pub join : {P Q : List ℕ → Type 0} {a b : List ℕ} {ts us : List Token} → Reads P a ts → Reads Q b us → ((rest : List ℕ) → Q rest → P (b ++ rest)) → Reads Q (a ++ b) (ts ++ us)
join {a = a} {b = b} {ts = ts} {us = us} first second fits = record {
  unbroken = all_append (λ c. not (c == 10)) a b first.unbroken second.unbroken;
  read = λ rest q. ap tokens (append_assoc a b rest) ∙ first.read (b ++ rest) (fits rest q) ∙ ap (λ vs. ts ++ vs) (second.read rest q) ∙ sym (append_assoc ts us (tokens rest));
}

-- what is read in front of some texts is read in front of fewer
pub fewer : {P Q : List ℕ → Type 0} {a : List ℕ} {ts : List Token} → Reads P a ts → ((rest : List ℕ) → Q rest → P rest) → Reads Q a ts
fewer r fits = record { unbroken = r.unbroken; read = λ rest q. r.read rest (fits rest q) }

-- a character that is a token by itself, whatever follows
pub mark : {P : List ℕ → Type 0} (c : ℕ) → not (c == 10) ≡ true → tokens (c ∷ []) ≡ plain (c ∷ []) ∷ [] → ((d : ℕ) (t : List ℕ) → tokens (c ∷ d ∷ t) ≡ plain (c ∷ []) ∷ tokens (d ∷ t)) → Reads P (c ∷ []) (plain (c ∷ []) ∷ [])
mark {P = P} c unbroken last before = record { unbroken = and_from (not (c == 10)) true unbroken refl; read = go }
  where
    go : (rest : List ℕ) → P rest → tokens (c ∷ rest) ≡ plain (c ∷ []) ∷ tokens rest
    go [] p = last
    go (d ∷ t) p = before d t

-- a blank is no token
pub blank_mark : {P : List ℕ → Type 0} → Reads P (32 ∷ []) []
blank_mark = record { unbroken = refl; read = λ rest p. refl }

-- a comma and a blank
pub comma_mark : {P : List ℕ → Type 0} → Reads P (44 ∷ 32 ∷ []) (plain (codes ",") ∷ [])
comma_mark = record { unbroken = refl; read = λ rest p. refl }

-- a colon before no colon
pub colon_mark : Reads BeforeNoColon (58 ∷ []) (plain (codes ":") ∷ [])
colon_mark = record { unbroken = refl; read = go }
  where
    go : (rest : List ℕ) → BeforeNoColon rest → tokens (58 ∷ rest) ≡ plain (codes ":") ∷ tokens rest
    go [] p = refl
    go (d ∷ t) p = simp p

-- an operator before a blank
pub operator_mark : (o : BinaryOp) → Reads BeforeBlank (operator_text o) (operator o ∷ [])
operator_mark o = record { unbroken = unbroken o; read = λ rest p. ap (λ r. tokens (operator_text o ++ r)) p.1 ∙ before o p.0 ∙ ap (λ r. operator o ∷ tokens r) (sym p.1) }
  where
    unbroken : (o : BinaryOp) → has_no_break (operator_text o) ≡ true
    unbroken power = refl
    unbroken _ = refl

    before : (o : BinaryOp) (t : List ℕ) → tokens (operator_text o ++ 32 ∷ t) ≡ operator o ∷ tokens t
    before power t = refl
    before _ t = refl

-- a sign, or .NOT. and a blank
pub prefix_mark : {P : List ℕ → Type 0} (o : UnaryOp) → Reads P (sign_text o) (prefix o ∷ [])
prefix_mark plus = mark 43 refl refl (λ d t. refl)
prefix_mark minus = mark 45 refl refl (λ d t. refl)
prefix_mark negation = record { unbroken = refl; read = λ rest p. refl }

-- a word
pub word_mark : (w : List ℕ) → NameWord w → Reads Ends w (plain w ∷ [])
word_mark w n = record { unbroken = name_bytes_unbroken w n.bytes; read = λ rest stop. word_token w rest n.bytes n.some stop }
