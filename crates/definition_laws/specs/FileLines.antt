-- Lines and their columns, each column by its number, and files by their lines.
use Rattle.std.specs.Prelude.{◌≡◌, ◌≢◌, ◌↔◌, ◌⊎◌, ℕ, ◌-◌, ◌≤◌, Bool, not, ◌==◌, IsTrue, List, [], ◌∷◌, ◌++◌, length, flat_map, slice_get, slice_index_or, Some, if◌then◌else◌}
use Rattle.std.specs.List.{list_all}
use Rattle.text_base.specs.Lines.{cut, without_return, is_marked, is_comment, column_6, label_field, statement_field, is_cut}

-- the byte in a column, counted from 1; a line counts as padded with blanks
abbrev pub column : ℕ → List ℕ → ℕ
column k l = slice_index_or l (k - 1) 32

-- Column k of a line is the byte k - 7 of its statement field, and the field has columns 7 to 72.
abbrev pub FieldHasColumns : Type 0
FieldHasColumns = (l : List ℕ) (k : ℕ) → 7 ≤ k → k ≤ 72 → slice_get (statement_field l) (k - 7) ≡ Some (column k l)

abbrev pub FieldHasLength : Type 0
FieldHasLength = (l : List ℕ) → length (statement_field l) ≡ 66

-- The label field has columns 1 to 5.
abbrev pub LabelHasColumns : Type 0
LabelHasColumns = (l : List ℕ) (k : ℕ) → 1 ≤ k → k ≤ 5 → slice_index_or (label_field l) (k - 1) 32 ≡ column k l

abbrev pub Column6IsSixth : Type 0
Column6IsSixth = (l : List ℕ) → column_6 l ≡ column 6 l

-- the columns of a line from one to another are blank
abbrev pub AreBlank : ℕ → ℕ → List ℕ → Type 0
AreBlank first last l = (k : ℕ) → first ≤ k → k ≤ last → column k l ≡ 32

-- A line is a comment exactly where it has a mark in column 1, or blanks in columns 1 to 72.
abbrev pub CommentsByColumns : Type 0
CommentsByColumns = (l : List ℕ) → IsTrue (is_comment l) ↔ (IsTrue (is_marked l) ⊎ AreBlank 1 72 l)

-- A line is cut exactly where it is no comment and not all of its columns after 72 are blank.
abbrev pub CutByColumns : Type 0
CutByColumns = (l : List ℕ) → IsTrue (is_cut l) ↔ (IsTrue (not (is_comment l)) × (AreBlank 73 (length l) l → ⊥))

-- the lines, each with LF after it
abbrev pub joined : List (List ℕ) → List ℕ
joined ls = flat_map (λ l. l ++ 10 ∷ []) ls

-- some bytes whose last line is ended
abbrev pub with_end : List ℕ → List ℕ
with_end bytes = if slice_index_or bytes (length bytes - 1) 10 == 10 then bytes else bytes ++ 10 ∷ []

-- The lines of a file joined are the file, with LF after its last line.
abbrev pub LinesAreJoined : Type 0
LinesAreJoined = (bytes : List ℕ) → joined (cut bytes) ≡ with_end bytes

-- a line has no LF
abbrev pub is_line : List ℕ → Bool
is_line = list_all (λ c. not (c == 10))

abbrev pub LinesHaveNoEnd : Type 0
LinesHaveNoEnd = (bytes : List ℕ) → IsTrue (list_all is_line (cut bytes))

-- Lines that are joined are cut as they were.
abbrev pub JoinedLinesAreCut : Type 0
JoinedLinesAreCut = (ls : List (List ℕ)) → IsTrue (list_all is_line ls) → cut (joined ls) ≡ ls

-- A CR at the end of a line is left out, and a line that ends otherwise stays.
abbrev pub ReturnIsLeftOut : Type 0
ReturnIsLeftOut = (l : List ℕ) → without_return (l ++ 13 ∷ []) ≡ l

abbrev pub OtherIsKept : Type 0
OtherIsKept = (l : List ℕ) (c : ℕ) → c ≢ 13 → without_return (l ++ c ∷ []) ≡ l ++ c ∷ []
