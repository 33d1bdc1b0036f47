-- The Fortran 90 program that is written for a program and its comments.
use Rattle.std.specs.Prelude.{ℕ, ◌+◌, ◌==◌, nat_le, List, [], ◌∷◌, ◌++◌, map, filter}
use Rattle.text_base.specs.Cards.{Comment}
use Rattle.text_base.specs.Remarks.{Remark}
use Rattle.program77.specs.Tree as source
use Rattle.program77.specs.Tree.{SourceUnit, SourceProgram}
use Rattle.program77.specs.Typing.{variables}
use Rattle.tree90.specs.Tree as free
use Rattle.tree90.specs.Tree.{Stmt, integer_object, FreeUnit, FreeProgram}
use Rattle.tree90.specs.Plain.{CodeAndTail, with_item}

-- ---- comments

abbrev pub remark_of : Comment → Remark
remark_of c = record { marked = c.marked; text = c.text }

-- the comments before which exactly so many statements of the file stand, and those before which so many or more do
abbrev pub comments_at : List Comment → ℕ → List Comment
comments_at cs k = filter (λ c. c.before == k) cs

abbrev pub comments_from : List Comment → ℕ → List Comment
comments_from cs k = filter (λ c. nat_le k c.before) cs

abbrev pub remarks_at : List Comment → ℕ → List Remark
remarks_at cs k = map remark_of (comments_at cs k)

-- ---- statements

-- the one statement that is written for this one, or none for a CONTINUE
abbrev pub statements_of : source.Stmt → List Stmt
statements_of (source.simple a) = free.simple a ∷ []
statements_of source.continue = []

-- Statement for statement, from the statement of this number on, each with the comments before it, and then the comments
-- before END. A CONTINUE is left out, and the comments before it go on to what follows.
abbrev pub written_list : List Comment → ℕ → List Remark → source.Code → CodeAndTail
written_list cs k left source.done = (free.done, left ++ remarks_at cs k)
written_list cs k left (source.item label here (source.simple a) rest) = with_item (left ++ remarks_at cs k) (free.simple a) (written_list cs (k + 1) [] rest)
written_list cs k left (source.item label here source.continue rest) = written_list cs (k + 1) (left ++ remarks_at cs k) rest

abbrev pub count_of : source.Code → ℕ
count_of source.done = 0
count_of (source.item label here s rest) = count_of rest + 1

-- how many statements a unit has, with its header and its END
abbrev pub size_of : SourceUnit → ℕ
size_of u = count_of u.code + 2

-- A main program, whose header is the statement of this number, with its variables by first appearance. The comments
-- before its header stand there, and those between it and the first executable statement right after it.
abbrev pub written_unit : List Comment → ℕ → SourceUnit → FreeUnit
written_unit cs first u = let listed = written_list (comments_from cs (first + 2)) (first + 1) [] u.code in record {
  head = remarks_at cs first;
  name = u.name;
  inner = remarks_at cs (first + 1);
  declared = map integer_object (variables u);
  code = listed.0;
  tail = listed.1;
}

abbrev pub written_units : List Comment → ℕ → List SourceUnit → List FreeUnit
written_units cs first [] = []
written_units cs first (u ∷ us) = written_unit cs first u ∷ written_units cs (first + size_of u) us

-- how many statements some units have
abbrev pub sizes_of : List SourceUnit → ℕ
sizes_of [] = 0
sizes_of (u ∷ us) = size_of u + sizes_of us

-- the units, and last the comments after all their statements
abbrev pub written : List Comment → SourceProgram → FreeProgram
written cs p = record { units = written_units cs 0 p.units; tail = map remark_of (comments_from cs (sizes_of p.units)) }

-- a list with more comments that no statement of it follows
abbrev pub with_tail : CodeAndTail → List Remark → CodeAndTail
with_tail listed remarks = (listed.0, listed.1 ++ remarks)
