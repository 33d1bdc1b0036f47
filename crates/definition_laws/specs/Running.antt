-- How the runs of a program belong together, by how many statements they may do.
use Rattle.std.specs.Prelude.{◌≡◌, ℕ, ◌+◌, ◌≤◌, [], slice_get, Option, Some, None}
use Rattle.text_base.specs.Values.{Fault}
use Rattle.text_base.specs.Trees.{Action}
use Rattle.text_base.specs.Runs.{Final, going, ended, fault, close}
use Rattle.text_base.specs.Evaluation.{Storage, Call, action}
use Rattle.text_base.specs.declared.refusal.Place.{Place}
use Rattle.text_base.specs.declared.stop_code.StopCode.{StopCode}
use Rattle.program77.specs.Tree.{SourceUnit, SourceProgram}
use Rattle.program77.specs.Layout.{layout_of}
use Rattle.program77.specs.Meaning.{Store, tagged, no_function, start77, run77}
use Rattle.tree90.specs.Tree.{Code, done, item, FreeUnit, FreeProgram}
use Rattle.tree90.specs.Meaning.{Objects, untagged, IsStart, run90}
use Rattle.tree90.specs.Meaning as free
use Rattle.definition_laws.specs.Statements.{actions_of, written_actions}
use Rattle.definition_laws.specs.CommentPlaces.{code_marks, how_many}

-- A run with more statements is the same run: what has ended or faulted stays so, and what goes on has gone on before.
pub record IsOneRun {W : Type 0} (run : ℕ → Final W) : Type 0 where
  pub ended_stays : (n m : ℕ) (w : W) (code : Option StopCode) → n ≤ m → run n ≡ ended w code → run m ≡ ended w code
  pub fault_stays : (n m : ℕ) (here : Place) (kind : Fault) → n ≤ m → run n ≡ fault here kind → run m ≡ fault here kind
  pub went_on : (n m : ℕ) (w : W) → n ≤ m → run m ≡ going w → (v : W) × (run n ≡ going v)

-- the run has ended or faulted
abbrev pub IsOver : {W : Type 0} → Final W → Type 0
IsOver (going w) = ⊥
IsOver (ended w code) = Unit {0}
IsOver (fault here kind) = Unit {0}

-- ---- FORTRAN 77

abbrev pub SourceRunsAreOne : Type 0
SourceRunsAreOne = (p : SourceProgram) → IsOneRun (run77 p)

-- A main program goes on from the start store; where there is none the run has ended.
abbrev pub SourceRunsBegin : Type 0
SourceRunsBegin = (p : SourceProgram) (main : SourceUnit) → slice_get p.units 0 ≡ Some main → run77 p 0 ≡ going (start77 (layout_of p))

abbrev pub NoSourceRun : Type 0
NoSourceRun = (p : SourceProgram) (n : ℕ) → p.units ≡ [] → run77 p n ≡ ended (start77 (layout_of p)) None

-- Straight code is over after its statements but CONTINUE, with END.
abbrev pub SourceRunsEnd : Type 0
SourceRunsEnd = (p : SourceProgram) (main : SourceUnit) → slice_get p.units 0 ≡ Some main → IsOver (run77 p (how_many (code_marks main.code)))

-- ---- Fortran 90, from any objects

abbrev pub WrittenRunsAreOne : Type 0
WrittenRunsAreOne = (start : Objects) (p : FreeProgram) → IsOneRun (run90 start p)

abbrev pub WrittenRunsBegin : Type 0
WrittenRunsBegin = (start : Objects) (p : FreeProgram) (main : FreeUnit) → slice_get p.units 0 ≡ Some main → run90 start p 0 ≡ going start

abbrev pub NoWrittenRun : Type 0
NoWrittenRun = (start : Objects) (p : FreeProgram) (m : ℕ) → p.units ≡ [] → run90 start p m ≡ ended start None

-- how many statements a list has
abbrev pub count_of : Code → ℕ
count_of done = 0
count_of (item remarks s rest) = count_of rest + 1

abbrev pub WrittenRunsEnd : Type 0
WrittenRunsEnd = (start : Objects) (p : FreeProgram) (main : FreeUnit) → slice_get p.units 0 ≡ Some main → IsOver (run90 start p (count_of main.code + 1))

-- ---- the order of statements

-- the run as it goes on from a store with the next statement, which is END where there is none
abbrev pub with_next : {W : Type 0} → Storage W → Call W → W → Option (Place × Action) → Final W
with_next storage function w None = ended w None
with_next storage function w (Some next) = close (action storage function next.0 next.1 1 w) (λ n u how. going u)

-- A run that goes on after n statements goes on with the statement that n stand before.
abbrev pub SourceRunsInOrder : Type 0
SourceRunsInOrder = (p : SourceProgram) (main : SourceUnit) (n : ℕ) (w : Store) → slice_get p.units 0 ≡ Some main → run77 p n ≡ going w
    → run77 p (n + 1) ≡ with_next (tagged (layout_of p) 0) no_function w (slice_get (actions_of main.code) n)

abbrev pub WrittenRunsInOrder : Type 0
WrittenRunsInOrder = (start : Objects) (p : FreeProgram) (main : FreeUnit) (m : ℕ) (w : Objects) → slice_get p.units 0 ≡ Some main → run90 start p m ≡ going w
    → run90 start p (m + 1) ≡ with_next (untagged main.name) free.no_function w (slice_get (written_actions main.code) m)

-- A program has objects with which its runs may begin.
abbrev pub RunsHaveStarts : Type 0
RunsHaveStarts = (p : FreeProgram) → (start : Objects) × IsStart p start
