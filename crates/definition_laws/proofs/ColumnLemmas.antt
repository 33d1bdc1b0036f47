-- Blank columns, and lines that are joined.
use Rattle.std.proofs.Common.{◌≡◌, ℕ, zero, suc, ◌+◌, ◌-◌, ◌<◌, ◌≤◌, ◌==◌, Bool, true, false, not, List, [], ◌∷◌, ◌++◌, length, get_or, take, drop, replicate, refl, ap, sym, ◌∙◌, append_assoc, arith}
use Rattle.std.specs.Prelude.{if◌then◌else◌, slice_get, Some}
use Rattle.std.specs.List.{list_all}
use Rattle.std.proofs.lemmas.List.{places, get_or-drop}
use Rattle.std.proofs.lemmas.Option.{slice_get-get_or}
use Rattle.std.proofs.lemmas.Bool.{eqb-true, eq-eqb, and_parts, and_from, not_from_false}
use Rattle.text_base.specs.Lines.{is_blank, with_first, cut, statement_field}
use Rattle.text_base.proofs.RemarkLines.{cut_line}
use Rattle.definition_laws.specs.FileLines.{joined, with_end, is_line}

-- some bytes, cut or padded with blanks to n
abbrev padded : ℕ → List ℕ → List ℕ
padded n l = take n l ++ replicate (n - length (take n l)) 32

pub length_padded : (n : ℕ) (l : List ℕ) → length (padded n l) ≡ n
length_padded n l = grind (arith, places)

pub padded_at : (n : ℕ) (l : List ℕ) (i : ℕ) → i < n → get_or (padded n l) i 32 ≡ get_or l i 32
padded_at zero l i lt = absurd (omega arith)
padded_at (suc n) [] i lt = grind (arith, places)
padded_at (suc n) (c ∷ l) zero lt = refl
padded_at (suc n) (c ∷ l) (suc i) lt =
    let e : suc n - suc (length (take n l)) ≡ n - length (take n l) = omega arith in
    ap (λ k. get_or (take n l ++ replicate k 32) i 32) e ∙ padded_at n l i (omega arith)

pub field_at : (l : List ℕ) (k : ℕ) → 7 ≤ k → k ≤ 72 → slice_get (statement_field l) (k - 7) ≡ Some (get_or l (k - 1) 32)
field_at l k low high =
    let within : k - 7 < length (padded 66 (drop 6 l)) = omega (arith, length_padded 66 (drop 6 l)) in
    let place : 6 + (k - 7) ≡ k - 1 = omega arith in
    slice_get-get_or (padded 66 (drop 6 l)) (k - 7) 32 within
    ∙ ap Some (padded_at 66 (drop 6 l) (k - 7) (omega arith) ∙ get_or-drop 6 l (k - 7) 32 ∙ ap (λ i. get_or l i 32) place)

-- bytes are blank up to n
pub blank_at : (n : ℕ) (l : List ℕ) → is_blank (take n l) ≡ true → (i : ℕ) → i < n → get_or l i 32 ≡ 32
blank_at zero l e i lt = absurd (omega arith)
blank_at (suc n) [] e i lt = refl
blank_at (suc n) (c ∷ l) e zero lt = eqb-true c 32 (and_parts (c == 32) (is_blank (take n l)) e).0
blank_at (suc n) (c ∷ l) e (suc i) lt = blank_at n l (and_parts (c == 32) (is_blank (take n l)) e).1 i (omega arith)

pub blank_from : (n : ℕ) (l : List ℕ) → ((i : ℕ) → i < n → get_or l i 32 ≡ 32) → is_blank (take n l) ≡ true
blank_from zero l f = refl
blank_from (suc n) [] f = refl
blank_from (suc n) (c ∷ l) f = and_from (c == 32) (is_blank (take n l)) (eq-eqb c 32 (f 0 (omega arith))) (blank_from n l (λ i lt. f (suc i) (omega arith)))

-- ---- lines that are joined

with_end_more : (c d : ℕ) (t : List ℕ) → with_end (c ∷ d ∷ t) ≡ c ∷ with_end (d ∷ t)
with_end_more c d t =
    let e : suc (suc (length t)) - 1 ≡ suc (suc (length t) - 1) = omega arith in
    ap (λ n. if get_or (c ∷ d ∷ t) n 10 == 10 then c ∷ d ∷ t else c ∷ d ∷ t ++ 10 ∷ []) e ∙ out (get_or (d ∷ t) (suc (length t) - 1) 10 == 10)
  where
    out : (b : Bool) → (if b then c ∷ d ∷ t else c ∷ d ∷ t ++ 10 ∷ []) ≡ c ∷ (if b then d ∷ t else d ∷ t ++ 10 ∷ [])
    out true = refl
    out false = refl

-- a byte before the first of some lines stands before them joined
joined_first : (c d : ℕ) (t : List ℕ) → joined (with_first c (cut (d ∷ t))) ≡ c ∷ joined (cut (d ∷ t))
joined_first c d t = go (d == 10) (cut t)
  where
    go : (b : Bool) (ls : List (List ℕ)) → joined (with_first c (if b then [] ∷ ls else with_first d ls)) ≡ c ∷ joined (if b then [] ∷ ls else with_first d ls)
    go true ls = refl
    go false [] = refl
    go false (l ∷ ls) = refl

pub joined_cut : (bytes : List ℕ) → joined (cut bytes) ≡ with_end bytes
joined_cut [] = refl
joined_cut (c ∷ []) = go (c == 10) refl
  where
    go : (b : Bool) → (c == 10) ≡ b → joined (if b then [] ∷ [] else with_first c []) ≡ (if b then c ∷ [] else c ∷ 10 ∷ [])
    go true e = ap (λ d. d ∷ []) (sym (eqb-true c 10 e))
    go false e = refl
joined_cut (c ∷ d ∷ t) = go (c == 10) refl ∙ ap (λ l. c ∷ l) (joined_cut (d ∷ t)) ∙ sym (with_end_more c d t)
  where
    go : (b : Bool) → (c == 10) ≡ b → joined (if b then [] ∷ cut (d ∷ t) else with_first c (cut (d ∷ t))) ≡ c ∷ joined (cut (d ∷ t))
    go true e = ap (λ x. x ∷ joined (cut (d ∷ t))) (sym (eqb-true c 10 e))
    go false e = joined_first c d t

pub cut_is_plain : (bytes : List ℕ) → list_all is_line (cut bytes) ≡ true
cut_is_plain [] = refl
cut_is_plain (c ∷ t) = go (c == 10) refl (cut t) (cut_is_plain t)
  where
    go : (b : Bool) → (c == 10) ≡ b → (ls : List (List ℕ)) → list_all is_line ls ≡ true → list_all is_line (if b then [] ∷ ls else with_first c ls) ≡ true
    go true e ls plain = plain
    go false e [] plain = and_from (is_line (c ∷ [])) true (and_from (not (c == 10)) true (not_from_false (c == 10) e) refl) refl
    go false e (l ∷ ls) plain =
        let parts = and_parts (is_line l) (list_all is_line ls) plain in
        and_from (is_line (c ∷ l)) (list_all is_line ls) (and_from (not (c == 10)) (is_line l) (not_from_false (c == 10) e) parts.0) parts.1

pub cut_joined : (ls : List (List ℕ)) → list_all is_line ls ≡ true → cut (joined ls) ≡ ls
cut_joined [] e = refl
cut_joined (l ∷ ls) e =
    let parts = and_parts (is_line l) (list_all is_line ls) e in
    ap cut (append_assoc l (10 ∷ []) (joined ls)) ∙ cut_line l (joined ls) parts.0 ∙ ap (λ (more : List (List ℕ)). l ∷ more) (cut_joined ls parts.1)
