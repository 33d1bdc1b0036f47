-- The blanks that a line is padded with: none is bad, and all are taken at once.
use Rattle.std.proofs.Common.{◌≡◌, ◌∙◌, ap, refl, sym, ℕ, zero, suc, ◌+◌, ◌-◌, Bool, true, false, not, cond, ◌==◌, List, [], ◌∷◌, ◌++◌, length, take, drop, replicate, Option, Some, None, arith}
use Rattle.std.specs.List.{position_from, zip}
use Rattle.text_base.specs.Kept.{Scan, scan_after, mark_of, marks_from, scan_all}
use Rattle.text_base.specs.LineRefusals.{is_bad}
use Rattle.text_base.specs.Lines.{statement_field}
use Rattle.card_reader.specs.Check.{bad_in_field}
use Rattle.card_reader.proofs.Checking.{scan_append}

-- ---- bad characters

-- the first bad character, of which the first has the column k
abbrev bad_from : ℕ → Scan → List ℕ → Option ℕ
bad_from k s text = position_from (λ p. is_bad p.0 p.1) k (zip text (marks_from s text))

blanks_are_good : (n k : ℕ) (s : Scan) → bad_from k s (replicate n 32) ≡ None
blanks_are_good zero k s = refl
blanks_are_good (suc n) k s = blanks_are_good n (k + 1) (scan_after s 32)

padded_from : (text : List ℕ) (n k : ℕ) (s : Scan) → bad_from k s (text ++ replicate n 32) ≡ bad_from k s text
padded_from [] n k s = blanks_are_good n k s
padded_from (c ∷ text) n k s = ap (λ found. cond (is_bad c (mark_of s c)) (Some k) found) (padded_from text n (k + 1) (scan_after s c))

-- the blanks behind a text have no bad character
padded_is_good : (s : Scan) (text : List ℕ) (n : ℕ) → bad_in_field s (text ++ replicate n 32) ≡ bad_in_field s text
padded_is_good s text n = padded_from text n 7 s

-- ---- what they say

-- a scan with this count of characters to come, where no constant is open
abbrev at : Scan → ℕ → Scan
at s left = record s { inside = false; left = left }

blank_after : (s : Scan) (left : ℕ) → scan_after (at s left) 32 ≡ at s (left - 1)
blank_after s left = go (left == 0) refl
  where
    go : (b : Bool) → (left == 0) ≡ b → cond (not b) (at s (left - 1)) (at s left) ≡ at s (left - 1)
    go true e = let none : left ≡ left - 1 = grind (arith, e) in ap (at s) none
    go false e = refl

blanks_from : (n : ℕ) (s : Scan) (left : ℕ) → scan_all (at s left) (replicate n 32) ≡ at s (left - n)
blanks_from zero s left = ap (at s) (omega arith)
blanks_from (suc n) s left =
    let one_less : (left - 1) - n ≡ left - suc n = omega arith in
    ap (λ t. scan_all t (replicate n 32)) (blank_after s left) ∙ blanks_from n s (left - 1) ∙ ap (at s) one_less

-- characters to come are counted down
pub blanks_outside : (n : ℕ) (s : Scan) (left : ℕ) → s.inside ≡ false → left ≡ s.left - n → record s { left = left } ≡ scan_all s (replicate n 32)
blanks_outside n s left outside e =
    let same : s ≡ at s s.left = λ i. record s { inside = outside i } in
    (λ i. record s { inside = outside i; left = e i }) ∙ sym (blanks_from n s s.left) ∙ ap (λ t. scan_all t (replicate n 32)) (sym same)

-- the scan of an open constant
abbrev opened : Scan → Scan
opened s = record s { inside = true }

blanks_opened : (n : ℕ) (s : Scan) → scan_all (opened s) (replicate n 32) ≡ opened s
blanks_opened zero s = refl
blanks_opened (suc n) s = blanks_opened n s

-- a constant stays open
pub blanks_inside : (n : ℕ) (s : Scan) → s.inside ≡ true → s ≡ scan_all s (replicate n 32)
blanks_inside n s inside =
    let same : s ≡ opened s = λ i. record s { inside = inside i } in
    same ∙ sym (blanks_opened n s) ∙ ap (λ t. scan_all t (replicate n 32)) (sym same)

-- ---- the field of a line

padded : (l text : List ℕ) → text ≡ take 66 (drop 6 l) → text ++ replicate (66 - length text) 32 ≡ statement_field l
padded l text e = ap (λ (t : List ℕ). t ++ replicate (66 - length t) 32) e

-- the first bad character of the field is that of the text
pub field_bad : (s : Scan) (l text : List ℕ) (found : Option ℕ) → text ≡ take 66 (drop 6 l) → bad_in_field s text ≡ found → bad_in_field s (statement_field l) ≡ found
field_bad s l text found e is = ap (bad_in_field s) (sym (padded l text e)) ∙ padded_is_good s text (66 - length text) ∙ is

-- what the field says is what the blanks say after the text
pub field_scanned : (s after made : Scan) (l text : List ℕ) → text ≡ take 66 (drop 6 l) → after ≡ scan_all s text → made ≡ scan_all after (replicate (66 - length text) 32) → made ≡ scan_all s (statement_field l)
field_scanned s after made l text e first then_blanks =
    let blanks = replicate (66 - length text) 32 in
    then_blanks ∙ ap (λ t. scan_all t blanks) first ∙ sym (scan_append s text blanks) ∙ ap (scan_all s) (padded l text e)
