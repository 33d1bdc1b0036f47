-- Units in the code, as the definitions have them.
use Rattle.std.specs.Option.{option_map}
use Rattle.std.specs.Prelude.{◌≡◌, ℕ, suc, false, List, [], ◌∷◌, ◌++◌, map, Option, Some, None}
use Rattle.text_base.specs.declared.refusal.Place.{Place}
use Rattle.expr_tree.specs.Plain.{expr_of}
use Rattle.tree77.specs.StatementPlain.{header_of, declared_of, statement_of}
use Rattle.tree77.specs.Statements as s
use Rattle.order77.specs.declared.read.ReadStatement.{ReadStatement}
use Rattle.unit77.specs.declared.tree.HeaderLine77.{HeaderLine77}
use Rattle.unit77.specs.declared.tree.DeclaredLine77.{DeclaredLine77}
use Rattle.unit77.specs.declared.tree.StmtFunction.{StmtFunction}
use Rattle.unit77.specs.declared.tree.EndIf.{EndIf}
use Rattle.unit77.specs.declared.tree.Unit77.{Unit77}
use Rattle.unit77.specs.declared.units.Gathering.{Gathering}
use Rattle.unit77.specs.declared.units.Building.{Building}
use Rattle.unit77.specs.Units.{strays_at, strays_behind, open_after}
use Rattle.order77.specs.Counts.{counts_as, is_end}
use Rattle.unit77.specs.Tree.{Line}
use Rattle.unit77.specs.Nesting.{is_executable, IsNesting}
use Rattle.unit77.specs.Programs.{ProgramUnit, first_of, reading_of, those, AreUnits, is_header, is_declared, is_function}
use Rattle.unit77.specs.Views.{line, items_of, state_of, stack_of}
use Rattle.unit77.specs.Running.{run, start, heads}

abbrev pub header_line : HeaderLine77 → Line
header_line h = line h.number h.label h.place (s.header (header_of h.header))

abbrev pub header_lines : Option HeaderLine77 → List Line
header_lines None = []
header_lines (Some h) = header_line h ∷ []

abbrev pub declared_line : DeclaredLine77 → Line
declared_line d = line d.number d.label d.place (s.declared (declared_of d.declared))

abbrev pub function_line : StmtFunction → Line
function_line f = line f.number f.label f.place (s.statement_function f.name f.dummies (expr_of f.value))

abbrev pub end_line : EndIf → Line
end_line e = line e.number e.label e.place s.end

abbrev pub unit_of : Unit77 → ProgramUnit
unit_of u = record {
  number = u.number;
  place = u.place;
  headers = header_lines u.header;
  declared = map declared_line u.declared;
  functions = map function_line u.functions;
  items = items_of u.items;
  last = end_line u.end;
}

-- ---- statements that are read and not refused

abbrev pub lines_at : ℕ → ReadStatement → Option s.Statement → List Line
lines_at n r None = []
lines_at n r (Some x) = line n r.label r.place x ∷ []

-- ---- a unit of which some statements are gathered

-- the place of the first of some statements
abbrev pub FirstIs : Option (ℕ × Place) → List Line → Type 0
FirstIs first [] = first ≡ None
FirstIs first (l ∷ ls) = first ≡ Some (l.number, l.place)

pub record Gathers (g : Gathering) (own : List Line) : Type 0 where
  pub first : FirstIs g.first own
  pub headers : header_lines g.header ≡ those is_header own
  pub declared : map declared_line g.declared ≡ those is_declared own
  pub functions : map function_line g.functions ≡ those is_function own
  -- the pass over the executable ones goes on where it stands
  pub nested : (rest : List Line) → run (state_of g.nester) rest ≡ run start (those is_executable own ++ rest)
  pub open_ : heads (stack_of g.nester.open) ≡ open_after (map reading_of own)

-- the unit has the parts of these statements
pub record HasPartsOf (own : List Line) (u : ProgramUnit) : Type 0 where
  pub number : u.number ≡ (first_of own u.last).number
  pub place : u.place ≡ (first_of own u.last).place
  pub headers : u.headers ≡ those is_header own
  pub declared : u.declared ≡ those is_declared own
  pub functions : u.functions ≡ those is_function own
  pub nested : IsNesting (those is_executable own) u.items

-- ---- the units so far

-- a statement of a unit is no END, and nothing is refused of it behind these
abbrev pub IsClean : List Line → Line → Type 0
IsClean before l = (is_end (counts_as (reading_of l)) ≡ false) × (strays_at (map reading_of before) (reading_of l) ≡ [])

-- What holds of the units so far and of the one that is gathered, where some statements are left of all: nothing is refused of
-- what is gathered and left, and with the units of these the units are those of all.
pub record IsBuild (all left : List Line) (b : Building) : Type 0 where
  pub own : List Line
  pub gathered : Gathers b.gathering own
  pub each : (before rest : List Line) (l : Line) → own ≡ before ++ l ∷ rest → IsClean before l
  pub number : ℕ
  pub accepted : strays_behind (map reading_of own) number (map reading_of left) ≡ []
  pub units : (more : List ProgramUnit) → AreUnits (own ++ left) more → AreUnits all (map unit_of b.units ++ more)

-- a statement may be taken
abbrev pub MayTake : Line → Building → Type 0
MayTake l b = (all : List Line) × (left : List Line) × IsBuild all (l ∷ left) b

abbrev pub Takes : Building → Building → Line → Type 0
Takes b new l = (all left : List Line) → IsBuild all (l ∷ left) b → IsBuild all left new

-- the statements of the file from a number on, which are all read, are these
abbrev pub lines_from : ℕ → List ReadStatement → List Line
lines_from n [] = []
lines_from n (r ∷ rs) = lines_at n r (option_map statement_of r.statement) ++ lines_from (suc n) rs
