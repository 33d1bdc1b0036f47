-- Text without LF, and lines that are put together from it.
use Rattle.std.proofs.Common.{◌≡◌, ℕ, zero, suc, ◌+◌, ◌≤◌, ◌==◌, Bool, true, false, not, ◌&&◌, List, [], ◌∷◌, ◌++◌, length, refl, sym, ap, ◌∙◌, subst, arith, append_assoc, le-leb, length-append}
use Rattle.std.specs.Prelude.{nat_le, replicate, slice_index, if◌then◌else◌}
use Rattle.std.specs.List.{list_all}
use Rattle.std.proofs.lemmas.Bool.{eqb-true, not-true, leb-true, and_from, and_parts}
use Rattle.std.proofs.lemmas.List.{length-replicate}
use Rattle.text_base.specs.Lines.{with_first, cut}
use Rattle.text_base.specs.Chars.{is_upper, is_name_byte, is_name}

-- a line of 132 characters at most
abbrev pub is_short : List ℕ → Bool
is_short l = nat_le (length l) 132

-- text without LF
abbrev pub has_no_feed : List ℕ → Bool
has_no_feed = list_all (λ c. not (c == 10))

-- text that is appended has no LF where its parts have none
pub no_feed_append : (x y : List ℕ) → has_no_feed x ≡ true → has_no_feed y ≡ true → has_no_feed (x ++ y) ≡ true
no_feed_append [] y e f = f
no_feed_append (c ∷ x) y e f =
    let parts = and_parts (not (c == 10)) (has_no_feed x) e in
    and_from (not (c == 10)) (has_no_feed (x ++ y)) parts.0 (no_feed_append x y parts.1 f)

-- blanks have no LF
pub no_feed_blanks : (n : ℕ) → has_no_feed (replicate n 32) ≡ true
no_feed_blanks zero = refl
no_feed_blanks (suc n) = no_feed_blanks n

-- a character of a name is no LF
name_byte_is_no_feed : (c : ℕ) → is_name_byte c ≡ true → not (c == 10) ≡ true
name_byte_is_no_feed c e = go (c == 10) refl
  where
    go : (b : Bool) → (c == 10) ≡ b → not b ≡ true
    go false is = refl
    go true is = let bad : is_name_byte 10 ≡ true = subst (λ z. is_name_byte z ≡ true) (eqb-true c 10 is) e in absurd cc

-- characters of a name have no LF
no_feed_bytes : (x : List ℕ) → list_all is_name_byte x ≡ true → has_no_feed x ≡ true
no_feed_bytes [] e = refl
no_feed_bytes (c ∷ x) e =
    let parts = and_parts (is_name_byte c) (list_all is_name_byte x) e in
    and_from (not (c == 10)) (has_no_feed x) (name_byte_is_no_feed c parts.0) (no_feed_bytes x parts.1)

-- a name has no LF
pub no_feed_name : (x : List ℕ) → is_name x ≡ true → has_no_feed x ≡ true
no_feed_name x e =
    let all = and_parts (is_upper (slice_index x 0)) (list_all is_name_byte x && nat_le (length x) 31) e in
    no_feed_bytes x (and_parts (list_all is_name_byte x) (nat_le (length x) 31) all.1).0

-- a name has at most 31 characters
pub name_is_short : (x : List ℕ) → is_name x ≡ true → length x ≤ 31
name_is_short x e =
    let all = and_parts (is_upper (slice_index x 0)) (list_all is_name_byte x && nat_le (length x) 31) e in
    leb-true (length x) 31 (and_parts (list_all is_name_byte x) (nat_le (length x) 31) all.1).1

-- a line up to its LF is cut off
cut_line : (text rest : List ℕ) → has_no_feed text ≡ true → cut (text ++ 10 ∷ rest) ≡ text ∷ cut rest
cut_line [] rest e = refl
cut_line (c ∷ text) rest e =
    let parts = and_parts (not (c == 10)) (has_no_feed text) e in
    ap (λ b. if b then [] ∷ cut (text ++ 10 ∷ rest) else with_first c (cut (text ++ 10 ∷ rest))) (not-true (c == 10) parts.0)
    ∙ ap (with_first c) (cut_line text rest parts.1)

-- the text is whole lines, and each of them is short
pub record IsShortLines (out : List ℕ) : Type 0 where
  pub before : (rest : List ℕ) → list_all is_short (cut rest) ≡ true → list_all is_short (cut (out ++ rest)) ≡ true

-- nothing is no line
pub short_nothing : IsShortLines []
short_nothing = record { before = λ rest e. e }

-- short lines after short lines
pub short_append : {x y : List ℕ} → IsShortLines x → IsShortLines y → IsShortLines (x ++ y)
short_append {x} {y} e f = record {
  before = λ rest g. subst (λ t. list_all is_short (cut t) ≡ true) (sym (append_assoc x y rest)) (e.before (y ++ rest) (f.before rest g));
}

-- one line with its LF
pub short_line : (text : List ℕ) → has_no_feed text ≡ true → length text ≤ 132 → IsShortLines (text ++ 10 ∷ [])
short_line text none few = record {
  before = λ rest e. subst (λ t. list_all is_short (cut t) ≡ true) (sym (append_assoc text (10 ∷ []) rest))
      (subst (λ ls. list_all is_short ls ≡ true) (sym (cut_line text rest none)) (and_from (is_short text) (list_all is_short (cut rest)) (le-leb _ _ few) e));
}

-- one line with blanks before its text
pub short_indented : (n : ℕ) (text : List ℕ) → has_no_feed text ≡ true → n + length text ≤ 132 → IsShortLines (replicate n 32 ++ text ++ 10 ∷ [])
short_indented n text none few =
    let size : length (replicate n 32 ++ text) ≤ 132 = omega (arith, length-append {A = ℕ} (replicate n 32) text, length-replicate {A = ℕ} n 32, few) in
    short_line (replicate n 32 ++ text) (no_feed_append (replicate n 32) text (no_feed_blanks n) none) size
