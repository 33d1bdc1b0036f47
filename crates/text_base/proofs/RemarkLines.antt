-- The written lines of comments are read as those comments.
use Rattle.std.proofs.Common.{◌≡◌, ℕ, ◌==◌, Bool, true, false, not, List, [], ◌∷◌, ◌++◌, map, refl, ap, sym, subst, ◌∙◌, append_assoc, arith}
use Rattle.std.specs.Prelude.{if◌then◌else◌, Result, Ok, Err}
use Rattle.std.specs.List.{list_all}
use Rattle.std.proofs.lemmas.List.{append-nil}
use Rattle.std.proofs.lemmas.Grind.{flat_map-append}
use Rattle.std.specs.Result.{OnOk, OnErr}
use Rattle.std.proofs.lemmas.Bool.{eqb-true, not-true, and_parts, and_from}
use Rattle.text_base.specs.Lines.{with_first, cut, is_blank}
use Rattle.text_base.proofs.CharTests.{all_append}
use Rattle.text_base.specs.Remarks.{Remark, remark_text, remarks_text, is_writable_remark, are_writable_remarks, line_remark, remarks_in}

abbrev marked : List ℕ → Remark
marked text = record { marked = true; text = text }

abbrev unmarked : List ℕ → Remark
unmarked text = record { marked = false; text = text }

-- what has no LF is a line up to the next
pub cut_line : (l more : List ℕ) → list_all (λ c. not (c == 10)) l ≡ true → cut (l ++ 10 ∷ more) ≡ l ∷ cut more
cut_line [] more e = refl
cut_line (c ∷ l) more e =
    let parts = and_parts (not (c == 10)) (list_all (λ c. not (c == 10)) l) e in
    ap (λ b. if b then [] ∷ cut (l ++ 10 ∷ more) else with_first c (cut (l ++ 10 ∷ more))) (not-true (c == 10) parts.0)
    ∙ ap (with_first c) (cut_line l more parts.1)

-- a blank line is the comment without mark
blank_line : (text : List ℕ) → is_blank text ≡ true → line_remark text ≡ unmarked text
blank_line [] e = refl
blank_line (c ∷ text) e = go (c == 33) refl (and_parts (c == 32) (is_blank text) e).0
  where
    go : (b : Bool) → (c == 33) ≡ b → (c == 32) ≡ true → (if b then marked text else unmarked (c ∷ text)) ≡ unmarked (c ∷ text)
    go false is blank = refl
    go true is blank = absurd (omega (arith, eqb-true c 33 is, eqb-true c 32 blank))

-- a written comment is read as that comment
one_read : (marked : Bool) (text more : List ℕ) → is_writable_remark (record { marked = marked; text = text }) ≡ true
    → remarks_in (remark_text (record { marked = marked; text = text }) ++ more) ≡ record { marked = marked; text = text } ∷ remarks_in more
one_read true text more e =
    let parts = and_parts (list_all (λ c. not (c == 10)) text) true e in
    ap remarks_in (append_assoc (33 ∷ text) (10 ∷ []) more) ∙ ap (map line_remark) (cut_line (33 ∷ text) more parts.0)
one_read false text more e =
    let parts = and_parts (list_all (λ c. not (c == 10)) text) (is_blank text) e in
    ap remarks_in (append_assoc text (10 ∷ []) more)
    ∙ ap (map line_remark) (cut_line text more parts.0)
    ∙ ap (λ (r : Remark). r ∷ remarks_in more) (blank_line text parts.1)

-- written comments are read as those comments
pub all_read : (remarks : List Remark) (more : List ℕ) → are_writable_remarks remarks ≡ true → remarks_in (remarks_text remarks ++ more) ≡ remarks ++ remarks_in more
all_read [] more e = refl
all_read (r ∷ remarks) more e =
    let parts = and_parts (is_writable_remark r) (are_writable_remarks remarks) e in
    ap remarks_in (append_assoc (remark_text r) (remarks_text remarks) more)
    ∙ one_read r.marked r.text (remarks_text remarks ++ more) parts.0
    ∙ ap (λ (rs : List Remark). r ∷ rs) (all_read remarks more parts.1)

-- lines that are those of the comments that they hold
abbrev pub IsKept : List ℕ → Type 0
IsKept lines = (remarks_text (remarks_in lines) ≡ lines) × (are_writable_remarks (remarks_in lines) ≡ true)

-- such lines hold these comments
pub record Holds (lines : List ℕ) (remarks : List Remark) : Type 0 where
  pub kept : IsKept lines
  pub read : remarks_in lines ≡ remarks

-- the lines of comments hold them
holds_all : (remarks : List Remark) → are_writable_remarks remarks ≡ true → Holds (remarks_text remarks) remarks
holds_all remarks e =
    let read : remarks_in (remarks_text remarks) ≡ remarks = ap remarks_in (sym (append-nil (remarks_text remarks))) ∙ all_read remarks [] e ∙ append-nil remarks in
    record { kept = (ap remarks_text read, ap are_writable_remarks read ∙ e); read = read }

-- the line of a comment holds it
pub holds_one : (r : Remark) → is_writable_remark r ≡ true → Holds (remark_text r) (r ∷ [])
holds_one r e = subst (λ lines. Holds lines (r ∷ [])) (append-nil (remark_text r)) (holds_all (r ∷ []) (and_from (is_writable_remark r) true e refl))

-- lines after lines hold the comments of both
pub holds_both : (a b : List ℕ) (more : List Remark) → IsKept a → Holds b more → Holds (a ++ b) (remarks_in a ++ more)
holds_both a b more kept other =
    let old = remarks_in a in
    let texts : remarks_text (old ++ more) ≡ a ++ b =
    flat_map-append remark_text old more
    ∙ ap (λ (l : List ℕ). l ++ remarks_text more) kept.0
    ∙ ap (λ (l : List ℕ). a ++ l) (ap remarks_text (sym other.read) ∙ other.kept.0) in
    let writable : are_writable_remarks more ≡ true = ap are_writable_remarks (sym other.read) ∙ other.kept.1 in
    subst (λ lines. Holds lines (old ++ more)) texts (holds_all (old ++ more) (all_append is_writable_remark old more kept.1 writable))

-- lines that were lengthened, or left as they were
pub lengthened : {T E : Type 0} (result : Result T E) (old b new : List ℕ) (more : List Remark) → IsKept old → Holds b more → OnOk result (new ≡ old ++ b) → OnErr result (new ≡ old)
    → IsKept new × OnOk result (remarks_in new ≡ remarks_in old ++ more)
lengthened (Ok v) old b new more kept other ok err =
    let both = holds_both old b more kept other in (subst IsKept (sym ok) both.kept, ap remarks_in ok ∙ both.read)
lengthened (Err e) old b new more kept other ok err = (subst IsKept (sym err) kept, tt)
