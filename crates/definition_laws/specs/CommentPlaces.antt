-- Comments: what their texts are, in which order they are written, and what their positions tell.
use Rattle.std.specs.Prelude.{◌≡◌, ◌≢◌, ◌↔◌, ℕ, zero, suc, ◌+◌, ◌≤◌, Bool, true, false, IsTrue, All, List, [], ◌∷◌, ◌++◌, take, map, flat_map, count_by, slice_index_or}
use Rattle.std.specs.List.{AllPairs}
use Rattle.text_base.specs.Lines.{is_blank, is_mark, is_marked}
use Rattle.text_base.specs.Cards.{Comment, comment_of, comments}
use Rattle.text_base.specs.Remarks.{Remark, is_writable_remark}
use Rattle.program77.specs.Tree as source
use Rattle.program77.specs.Tree.{SourceUnit, SourceProgram}
use Rattle.tree90.specs.Tree as free
use Rattle.tree90.specs.Tree.{FreeUnit, FreeProgram}
use Rattle.project_set.specs.Conversion.{IsConvertible}
use Rattle.project_set.specs.Rewrite.{remark_of, written}
use Rattle.project_set.specs.Positions.{Position, before_header, after_header, before_entry, at_end, Placed, position_of, source_positions, written_positions}
use Rattle.definition_laws.specs.FileLines.{is_line}

-- ---- texts

-- a mark, and the text of the comment, are the line
pub record IsMarkAndText (l : List ℕ) (c : Comment) : Type 0 where
  pub mark : ℕ
  pub is_one : IsTrue (is_mark mark)
  pub whole : l ≡ mark ∷ c.text

-- The line of a marked comment is one byte and its text. Where it begins with a mark, this is the byte.
abbrev pub MarkedIsLine : Type 0
MarkedIsLine = (before : ℕ) (l : List ℕ) → IsTrue (comment_of before l).marked → take 1 l ++ (comment_of before l).text ≡ l

abbrev pub MarkIsLeftOut : Type 0
MarkIsLeftOut = (before : ℕ) (l : List ℕ) → IsTrue (is_marked l) → IsMarkAndText l (comment_of before l)

-- The text of any other comment is its line, which is blank.
abbrev pub OtherIsBlank : Type 0
OtherIsBlank = (before : ℕ) (l : List ℕ) → (comment_of before l).marked ≡ false → ((comment_of before l).text ≡ l) × IsTrue (is_blank l)

-- No comment of a file has LF, and each can be written.
abbrev pub CommentsAreLines : Type 0
CommentsAreLines = (bytes : List ℕ) → All (λ (c : Comment). IsTrue (is_line c.text)) (comments bytes)

abbrev pub CommentsAreWritable : Type 0
CommentsAreWritable = (bytes : List ℕ) → All (λ (c : Comment). IsTrue (is_writable_remark (remark_of c))) (comments bytes)

-- ---- order

-- the comments of a program in the order of its text
abbrev pub code_remarks : free.Code → List Remark
code_remarks free.done = []
code_remarks (free.item remarks s rest) = remarks ++ code_remarks rest

abbrev pub unit_remarks : FreeUnit → List Remark
unit_remarks u = u.head ++ u.inner ++ (code_remarks u.code ++ u.tail)

abbrev pub remarks_of : FreeProgram → List Remark
remarks_of p = flat_map unit_remarks p.units ++ p.tail

-- the comments that stand at some positions
abbrev pub placed_remarks : List Placed → List Remark
placed_remarks ps = map (λ (p : Placed). p.remark) ps

-- Each comment of a source has a position, in order, and so has each of a program that is written.
abbrev pub SourceCommentsAreAll : Type 0
SourceCommentsAreAll = (bytes : List ℕ) (p : SourceProgram) → placed_remarks (source_positions bytes p) ≡ map remark_of (comments bytes)

abbrev pub WrittenCommentsAreAll : Type 0
WrittenCommentsAreAll = (p : FreeProgram) → placed_remarks (written_positions p) ≡ remarks_of p

-- What is written for a source has its comments, in order and at their positions.
abbrev pub CommentsAreWritten : Type 0
CommentsAreWritten = (bytes : List ℕ) (p : SourceProgram) → IsConvertible bytes p → remarks_of (written (comments bytes) p) ≡ map remark_of (comments bytes)

abbrev pub PositionsAreKept : Type 0
PositionsAreKept = (bytes : List ℕ) (p : SourceProgram) → IsConvertible bytes p → source_positions bytes p ≡ written_positions (written (comments bytes) p)

-- The comments of a file are in order: none has fewer statements before it than an earlier one.
abbrev pub CommentsAscend : Type 0
CommentsAscend = (bytes : List ℕ) → AllPairs (λ (c d : Comment). c.before ≤ d.before) (comments bytes)

-- ---- positions

-- the statements of a unit from its header to its END, each by whether it isn't CONTINUE
abbrev pub code_marks : source.Code → List Bool
code_marks source.done = true ∷ []
code_marks (source.item label here (source.simple a) rest) = true ∷ code_marks rest
code_marks (source.item label here source.continue rest) = false ∷ code_marks rest

abbrev pub unit_marks : SourceUnit → List Bool
unit_marks u = true ∷ code_marks u.code

abbrev pub how_many : List Bool → ℕ
how_many marks = count_by (λ b. b) marks

-- how many of the first k statements of some units aren't CONTINUE
abbrev pub entries_among : List SourceUnit → ℕ → ℕ
entries_among us k = how_many (take k (flat_map unit_marks us))

-- how many stand before a position
abbrev pub entries_before : List SourceUnit → Position → ℕ
entries_before us (before_header unit) = how_many (flat_map unit_marks (take unit us))
entries_before us (after_header unit) = how_many (flat_map unit_marks (take unit us)) + 1
entries_before us (before_entry unit entry) = how_many (flat_map unit_marks (take unit us)) + 1 + entry
entries_before us at_end = how_many (flat_map unit_marks us)

-- The position of a comment tells how many statements that aren't CONTINUE stand before it.
abbrev pub PositionsTellEntries : Type 0
PositionsTellEntries = (us : List SourceUnit) (k : ℕ) → entries_before us (position_of 0 us k) ≡ entries_among us k

-- Where they aren't as many before two comments, these have different positions; and a later one has no earlier position.
abbrev pub PositionsAreApart : Type 0
PositionsAreApart = (us : List SourceUnit) (j k : ℕ) → entries_among us j ≢ entries_among us k → position_of 0 us j ≢ position_of 0 us k

abbrev pub PositionsAscend : Type 0
PositionsAscend = (us : List SourceUnit) (j k : ℕ) → j ≤ k → entries_before us (position_of 0 us j) ≤ entries_before us (position_of 0 us k)

-- The positions of the comments of a source are in order.
abbrev pub SourcePositionsAscend : Type 0
SourcePositionsAscend = (bytes : List ℕ) (p : SourceProgram) → AllPairs (λ (a b : Placed). entries_before p.units a.position ≤ entries_before p.units b.position) (source_positions bytes p)

-- ---- where positions are the same

-- the same statements, each by whether it is a header
abbrev pub unit_headers : SourceUnit → List Bool
unit_headers u = true ∷ map (λ b. false) (code_marks u.code)

-- the last of the first k statements of some units is a header
abbrev pub follows_header : List SourceUnit → ℕ → Bool
follows_header us zero = false
follows_header us (suc k) = slice_index_or (flat_map unit_headers us) k false

-- Two comments stand at the same position exactly where as many statements that aren't CONTINUE stand before both, and both
-- or neither stand right after a header.
abbrev pub PositionsAreExact : Type 0
PositionsAreExact = (us : List SourceUnit) (j k : ℕ) → (position_of 0 us j ≡ position_of 0 us k) ↔ ((entries_among us j ≡ entries_among us k) × (follows_header us j ≡ follows_header us k))
