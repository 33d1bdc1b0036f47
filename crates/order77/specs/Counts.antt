-- What a statement counts as for the order of statements (X3.9 section 3.5), and where it may stand.
use Rattle.std.specs.Prelude.{ℕ, Bool, true, false, not, ◌||◌, List, [], ◌∷◌, Option, Some, None, if◌then◌else◌}
use Rattle.std.specs.List.{list_all, list_any}
use Rattle.text_base.specs.declared.refusal.Refusal.{Refusal}
use Rattle.text_base.specs.declared.refusal.Place.{Place}
use Rattle.tree77.specs.Statements as s
use Rattle.tree77.specs.Statements.{Header, Declared, Simple, Statement, header, declared, statement_function, guarded, if_then, else_if, else_, end_if, do_, end}
use Rattle.order77.specs.declared.mark.UnitKind.{UnitKind}
use Rattle.order77.specs.declared.mark.UnitKind.TheVariants as kind
use Rattle.order77.specs.declared.mark.Counts.{Counts}
use Rattle.order77.specs.declared.mark.Counts.TheVariants as counts
use Rattle.order77.specs.declared.mark.Sort.{Sort}
use Rattle.order77.specs.declared.mark.Sort.TheVariants.{Plain, Leaving, Do, If, ElseIf, Else, EndIf}

-- A statement of a file as it was read: what it spells, where a part of it is refused what stands for it, or nothing where it has
-- no spelling; and why it is refused.
pub record Reading : Type 0 where
  pub number : ℕ
  pub label : ℕ
  pub place : Place
  pub statement : Option Statement
  pub refusal : Option Refusal

-- the sort of a simple statement; GO TO, arithmetic IF, RETURN and STOP are no terminal statements (X3.9 section 11.10)
abbrev pub simple_sort : Simple → Sort
simple_sort (s.goto l) = Leaving
simple_sort (s.arithmetic x a b c) = Leaving
simple_sort s.return_ = Leaving
simple_sort (s.stop c) = Leaving
simple_sort _ = Plain

-- The sort of an executable statement. Others have none; END is no terminal statement.
abbrev pub sort_of : Statement → Sort
sort_of (s.simple a) = simple_sort a
sort_of (guarded e a) = Plain
sort_of (do_ t r) = Do t
sort_of (if_then e) = If
sort_of (else_if e) = ElseIf
sort_of else_ = Else
sort_of end_if = EndIf
sort_of _ = Leaving

abbrev pub kind_of : Header → UnitKind
kind_of (s.program x) = kind.Main
kind_of (s.subroutine x ds) = kind.Subroutine
kind_of (s.function t x ds) = kind.Function
kind_of (s.block_data x) = kind.BlockData

abbrev pub counts_declared : Declared → Counts
counts_declared (s.implicit is) = counts.Implicit
counts_declared (s.parameter es) = counts.Parameter
counts_declared (s.data_ gs) = counts.Anywhere
counts_declared (s.format xs) = counts.Anywhere
counts_declared _ = counts.Declaration

abbrev pub counts_simple : Simple → Sort → Counts
counts_simple s.return_ k = counts.Return k
counts_simple _ k = counts.Executable k

abbrev pub counts_of : Statement → Counts
counts_of (header h) = counts.Header (kind_of h)
counts_of (declared d) = counts_declared d
counts_of (statement_function f ds x) = counts.Function
counts_of (s.simple a) = counts_simple a (simple_sort a)
counts_of (guarded x a) = counts_simple a Plain
counts_of end = counts.End
counts_of x = counts.Executable (sort_of x)

-- What stands for a refused DO WHILE or END DO is END; another END is never refused.
abbrev pub unless_end : Counts → Counts
unless_end counts.End = counts.Outside
unless_end c = c

abbrev pub counts_in : Option Refusal → Option Statement → Counts
counts_in refusal None = counts.Nothing
counts_in None (Some x) = counts_of x
counts_in (Some r) (Some x) = unless_end (counts_of x)

abbrev pub counts_as : Reading → Counts
counts_as r = counts_in r.refusal r.statement

-- ---- what stands before a statement in its unit

abbrev pub counts_nothing : Counts → Bool
counts_nothing counts.Nothing = true
counts_nothing c = false

abbrev pub counts_declaration : Counts → Bool
counts_declaration counts.Declaration = true
counts_declaration c = false

abbrev pub counts_action : Counts → Bool
counts_action (counts.Executable k) = true
counts_action (counts.Return k) = true
counts_action counts.Outside = true
counts_action c = false

abbrev pub is_first : List Reading → Bool
is_first before = list_all (λ r. counts_nothing (counts_as r)) before

abbrev pub is_declared : List Reading → Bool
is_declared before = list_any (λ r. counts_declaration (counts_as r)) before

abbrev pub is_executed : List Reading → Bool
is_executed before = list_any (λ r. counts_action (counts_as r)) before

-- the kind that the first statement of a unit gives it
abbrev pub kind_by : Counts → UnitKind
kind_by (counts.Header k) = k
kind_by c = kind.Main

-- the kind of a unit is that of its header; without one it is a main program (X3.9 section 2.4)
abbrev pub kind_among : List Reading → UnitKind
kind_among [] = kind.Main
kind_among (r ∷ rs) = if counts_nothing (counts_as r) then kind_among rs else kind_by (counts_as r)

-- ---- where a statement may stand

abbrev pub is_main : UnitKind → Bool
is_main kind.Main = true
is_main k = false

abbrev pub is_block_data : UnitKind → Bool
is_block_data kind.BlockData = true
is_block_data k = false

-- A header stands first; IMPLICIT before all other declarations but PARAMETER, and declarations before executable statements
-- (X3.9 section 3.5); BLOCK DATA has none of these (X3.9 section 16), and a main program no RETURN (X3.9 section 15.8).
abbrev pub is_misplaced : List Reading → Counts → Bool
is_misplaced before (counts.Header k) = not (is_first before)
is_misplaced before counts.Implicit = is_declared before || is_executed before
is_misplaced before counts.Parameter = is_executed before
is_misplaced before counts.Declaration = is_executed before
is_misplaced before counts.Function = is_executed before
is_misplaced before (counts.Executable k) = is_block_data (kind_among before)
is_misplaced before (counts.Return k) = is_block_data (kind_among before) || is_main (kind_among before)
is_misplaced before counts.Outside = is_block_data (kind_among before)
is_misplaced before c = false

-- ---- sorts

-- the sort of what is nested
abbrev pub sort_in : Counts → Option Sort
sort_in (counts.Executable k) = Some k
sort_in (counts.Return k) = Some k
sort_in _ = None

abbrev pub is_end : Counts → Bool
is_end counts.End = true
is_end _ = false
