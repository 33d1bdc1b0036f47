use Rattle.std.proofs.Common.{◌≡◌, ℕ, ◌+◌, ◌-◌, true, not, List, length, get_or, take, drop, ap, sym, ◌∙◌, inl, inr, ⊎_elim, arith}
use Rattle.std.proofs.lemmas.List.{take_rest, get_or-drop}
use Rattle.std.proofs.lemmas.Bool.{or_cases, or_left, or_right, and_parts, and_from, not-true, not_from_false, false_from_ne_true, both_ways}
use Rattle.text_base.specs.Lines.{is_blank, is_marked, is_comment}
use Rattle.definition_laws.specs.FileLines.{AreBlank}
use Rattle.definition_laws.proofs.ColumnLemmas.{length_padded, field_at, blank_at, blank_from}
use Rattle.definition_laws.proofs.lines.columns_are_bytes.Goals as goal

pub returns-clause-field : goal.returns-clause-field
returns-clause-field c = field_at

pub returns-clause-length : goal.returns-clause-length
returns-clause-length c l = length_padded 66 (drop 6 l)

-- columns are places of a list
columns_at : (l : List ℕ) → is_blank (take 72 l) ≡ true → AreBlank 1 72 l
columns_at l e k low high = blank_at 72 l e (k - 1) (omega arith)

columns_from : (l : List ℕ) → AreBlank 1 72 l → is_blank (take 72 l) ≡ true
columns_from l f = blank_from 72 l (λ i lt. let e : i + 1 - 1 ≡ i = omega arith in ap (λ k. get_or l k 32) (sym e) ∙ f (i + 1) (omega arith) (omega arith))

pub returns-clause-comment : goal.returns-clause-comment
returns-clause-comment c l = (
  (λ e. ⊎_elim inl (λ blank. inr (columns_at l blank)) (or_cases (is_marked l) (is_blank (take 72 l)) e)),
  (λ s. ⊎_elim (or_left (is_marked l) (is_blank (take 72 l))) (λ f. or_right (is_marked l) (is_blank (take 72 l)) (columns_from l f)) s),
)

-- what follows column 72
rest_at : (l : List ℕ) → is_blank (drop 72 l) ≡ true → AreBlank 73 (length l) l
rest_at l e k low high =
    let place : 72 + (k - 73) ≡ k - 1 = omega arith in
    ap (λ i. get_or l i 32) (sym place) ∙ sym (get_or-drop 72 l (k - 73) 32) ∙ blank_at (length l - 72) (drop 72 l) (ap is_blank (take_rest l 72) ∙ e) (k - 73) (omega arith)

rest_from : (l : List ℕ) → AreBlank 73 (length l) l → is_blank (drop 72 l) ≡ true
rest_from l f =
    ap is_blank (sym (take_rest l 72))
    ∙ blank_from (length l - 72) (drop 72 l) (λ i lt.
    let place : 72 + i ≡ 73 + i - 1 = omega arith in
    get_or-drop 72 l i 32 ∙ ap (λ k. get_or l k 32) place ∙ f (73 + i) (omega arith) (omega arith))

pub returns-clause-cut : goal.returns-clause-cut
returns-clause-cut c l = (
  (λ e.
      let parts = and_parts (not (is_comment l)) (not (is_blank (drop 72 l))) e in
      (parts.0, λ f. both_ways (is_blank (drop 72 l)) (not-true (is_blank (drop 72 l)) parts.1) (rest_from l f))),
  (λ s. and_from (not (is_comment l)) (not (is_blank (drop 72 l))) s.0 (not_from_false (is_blank (drop 72 l)) (false_from_ne_true (is_blank (drop 72 l)) (λ e. s.1 (rest_at l e))))),
)
