-- The units that statements are, one after another (X3.9 section 2.4).
use Rattle.std.specs.Prelude.{◌≡◌, ◌≤◌, nat_lt, ℕ, Bool, true, false, List, [], ◌∷◌, ◌++◌, length, map, filter, Some, None, if◌then◌else◌}
use Rattle.text_base.specs.declared.refusal.Place.{Place}
use Rattle.tree77.specs.Statements.{Statement, header, declared, statement_function, end}
use Rattle.unit77.specs.declared.limits.TheConstants.{MOST_NESTED, MOST_LABELS}
use Rattle.order77.specs.Counts.{Reading}
use Rattle.unit77.specs.Nesting.{is_executable, IsNesting}
use Rattle.unit77.specs.Tree.{Line, Items, flat}
use Rattle.unit77.specs.Units.{open_after, jumps_among, is_out_of_order, different}

-- a statement that is read, and not refused
abbrev pub reading_of : Line → Reading
reading_of l = record { number = l.number; label = l.label; place = l.place; statement = Some l.statement; refusal = None }

abbrev pub is_header : Statement → Bool
is_header (header h) = true
is_header x = false

abbrev pub is_declared : Statement → Bool
is_declared (declared d) = true
is_declared x = false

abbrev pub is_function : Statement → Bool
is_function (statement_function f ds x) = true
is_function x = false

abbrev pub is_end_statement : Statement → Bool
is_end_statement end = true
is_end_statement x = false

abbrev pub those : (Statement → Bool) → List Line → List Line
those f ls = filter (λ (l : Line). f l.statement) ls

-- A unit: the number and the place of its first statement; its header, none or one; its declarations, DATA and FORMAT among them;
-- its statement functions; the nested lists of its executable statements; and its END.
pub record ProgramUnit : Type 0 where
  pub number : ℕ
  pub place : Place
  pub headers : List Line
  pub declared : List Line
  pub functions : List Line
  pub items : Items
  pub last : Line

-- the first statement of a unit, which may be its END
abbrev pub first_of : List Line → Line → Line
first_of [] e = e
first_of (l ∷ ls) e = l

-- each statement stands where it may stand
abbrev pub IsOrdered : List Line → Type 0
IsOrdered own = (before rest : List Line) (l : Line) → own ≡ before ++ l ∷ rest → is_out_of_order (map reading_of before) (reading_of l) ≡ false

-- at no place more constructs are open than may be
abbrev pub IsShallow : List Line → Type 0
IsShallow own = (before rest : List Line) → own ≡ before ++ rest → length (open_after (map reading_of before)) ≤ MOST_NESTED

-- these statements and this END are the unit
pub record IsUnit (own : List Line) (unit : ProgramUnit) : Type 0 where
  pub ends : unit.last.statement ≡ end
  pub inside : (before rest : List Line) (l : Line) → own ≡ before ++ l ∷ rest → l.statement ≡ end → ⊥
  pub number : unit.number ≡ (first_of own unit.last).number
  pub place : unit.place ≡ (first_of own unit.last).place
  pub headers : unit.headers ≡ those is_header own
  pub declared : unit.declared ≡ those is_declared own
  pub functions : unit.functions ≡ those is_function own
  pub nested : IsNesting (those is_executable own) unit.items
  pub ordered : IsOrdered own
  pub shallow : IsShallow own
  pub few_labels : length (different (jumps_among (map reading_of own))) ≤ MOST_LABELS

-- the statements are those of the units, one after another
abbrev pub AreUnits : List Line → List ProgramUnit → Type 0
AreUnits ls [] = ls ≡ []
AreUnits ls (u ∷ us) = (own : List Line) × (rest : List Line) × (ls ≡ own ++ u.last ∷ rest) × IsUnit own u × AreUnits rest us

-- ---- the statements of units, in order

-- a statement among others that stand in the order of their numbers
abbrev pub placed : Line → List Line → List Line
placed l [] = l ∷ []
placed l (m ∷ ms) = if nat_lt l.number m.number then l ∷ m ∷ ms else m ∷ placed l ms

abbrev pub in_order : List Line → List Line
in_order [] = []
in_order (l ∷ ls) = placed l (in_order ls)

-- all statements of a unit in the order of the text, END last
abbrev pub unit_lines : ProgramUnit → List Line
unit_lines u = in_order (u.headers ++ (u.declared ++ (u.functions ++ flat u.items))) ++ u.last ∷ []
