-- Comments as they are written, one line each (ISO/IEC 1539:1991 section 3.3.1.1).
use Rattle.std.specs.Prelude.{ℕ, Bool, true, false, not, ◌&&◌, ◌==◌, List, [], ◌∷◌, ◌++◌, map, flat_map, if◌then◌else◌}
use Rattle.std.specs.List.{list_all}
use Rattle.text_base.specs.Lines.{cut, is_blank}

-- a comment: whether it is marked, and its text
pub record Remark : Type 0 where
  pub marked : Bool
  pub text : List ℕ

-- a marked comment is `!` and its text, a blank one its text; LF ends its line
abbrev pub remark_text : Remark → List ℕ
remark_text r = (if r.marked then 33 ∷ r.text else r.text) ++ 10 ∷ []

abbrev pub remarks_text : List Remark → List ℕ
remarks_text remarks = flat_map remark_text remarks

-- a comment that can be written: it has no LF, and an unmarked one has blanks alone
abbrev pub is_writable_remark : Remark → Bool
is_writable_remark r = list_all (λ c. not (c == 10)) r.text && (if r.marked then true else is_blank r.text)

abbrev pub are_writable_remarks : List Remark → Bool
are_writable_remarks = list_all is_writable_remark

-- the comment that a written line is
abbrev pub line_remark : List ℕ → Remark
line_remark [] = record { marked = false; text = [] }
line_remark (c ∷ t) = if c == 33 then record { marked = true; text = t } else record { marked = false; text = c ∷ t }

-- the comments that some written lines are
abbrev pub remarks_in : List ℕ → List Remark
remarks_in text = map line_remark (cut text)
