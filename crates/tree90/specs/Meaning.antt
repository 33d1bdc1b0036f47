-- The Fortran 90 meaning: a recursion over nested lists, over objects without tags.
use Rattle.std.specs.Prelude.{◌≡◌, ℕ, ℤ, pos, Bool, ◌&&◌, ◌-◌, List, [], ◌∷◌, map, flat_map, slice_get, Option, Some, None, unwrap_or, if◌then◌else◌}
use Rattle.std.specs.Option.{option_and_then}
use Rattle.std.specs.Str.{bytes_eq}
use Rattle.text_base.specs.Values.{Value, integer, logical, string, no_meaning}
use Rattle.text_base.specs.Runs.{Final, ended, fault, Out, gives, over, bind, close, tick, How, normal}
use Rattle.text_base.specs.Evaluation.{Storage, Call}
use Rattle.text_base.specs.Evaluation as e
use Rattle.text_base.specs.declared.refusal.Place.{Place}
use Rattle.tree90.specs.Tree.{Stmt, simple, Code, done, item, Declared, integer_object, FreeUnit, FreeProgram}

-- the places of an object: elements, or for characters bytes
pub data Cells : Type 0 where
  integers : List ℤ → Cells
  logicals : List Bool → Cells
  characters : List ℕ → Cells

-- an object: the unit that declares it, its name and its places
pub record Object : Type 0 where
  pub home : List ℕ
  pub name : List ℕ
  pub cells : Cells

abbrev pub Objects : Type 0
Objects = List Object

abbrev pub is_object : List ℕ → List ℕ → Object → Bool
is_object home x o = bytes_eq o.home home && bytes_eq o.name x

-- the places of the object of a unit that has this name
abbrev pub cells_of : Objects → List ℕ → List ℕ → Option Cells
cells_of [] home x = None
cells_of (o ∷ os) home x = if is_object home x o then Some o.cells else cells_of os home x

-- the objects, where that one has these places
abbrev pub with_cells : Objects → List ℕ → List ℕ → Cells → Objects
with_cells [] home x cells = []
with_cells (o ∷ os) home x cells = if is_object home x o then record o { cells = cells } ∷ os else o ∷ with_cells os home x cells

-- what an object of each type has at a place, counted from 1
abbrev pub integer_at : ℕ → Cells → Option ℤ
integer_at place (integers values) = slice_get values (place - 1)
integer_at place (logicals values) = None
integer_at place (characters bytes) = None

abbrev pub logical_at : ℕ → Cells → Option Bool
logical_at place (integers values) = None
logical_at place (logicals values) = slice_get values (place - 1)
logical_at place (characters bytes) = None

abbrev pub byte_at : ℕ → Cells → Option ℕ
byte_at place (integers values) = None
byte_at place (logicals values) = None
byte_at place (characters bytes) = slice_get bytes (place - 1)

abbrev pub object_integer : Objects → List ℕ → List ℕ → ℕ → Option ℤ
object_integer w home x place = option_and_then (integer_at place) (cells_of w home x)

abbrev pub object_logical : Objects → List ℕ → List ℕ → ℕ → Option Bool
object_logical w home x place = option_and_then (logical_at place) (cells_of w home x)

abbrev pub object_byte : Objects → List ℕ → List ℕ → ℕ → Option ℕ
object_byte w home x place = option_and_then (byte_at place) (cells_of w home x)

-- a scalar with a value
abbrev pub scalar : Value → Cells
scalar (integer v) = integers (v ∷ [])
scalar (logical b) = logicals (b ∷ [])
scalar (string t) = characters t

-- the objects as a unit sees them: no value is undefined
abbrev pub untagged : List ℕ → Storage Objects
untagged home = record {
  read = λ w x. Some (integer (unwrap_or (object_integer w home x 1) (pos 0)));
  write = λ w x v. with_cells w home x (scalar v);
}

-- the text has no places of its own
abbrev pub nowhere : Place
nowhere = record { file = 0; line = 0 }

abbrev pub next : How → (ℕ → Objects → Out Objects How) → ℕ → Objects → Out Objects How
next normal k n w = k n w

module _ (storage : Storage Objects) (call : Call Objects) where
  abbrev pub stmt : Stmt → ℕ → Objects → Out Objects How
  stmt (simple a) n w = e.action storage call nowhere a n w

  abbrev pub body : Code → ℕ → Objects → Out Objects How
  body done n w = gives n w normal
  body (item remarks s rest) n w = bind (stmt s n w) (λ n w h. next h (body rest) n w)

-- the END of the unit is counted
abbrev pub unit_end : ℕ → Objects → How → Out Objects (Unit {0})
unit_end n w normal = tick n w (λ n. gives n w tt)

-- no function is referred to but intrinsic ones
abbrev pub no_function : Call Objects
no_function f values n w = over (fault nowhere no_meaning)

-- what all units declare, each declaration with the name of its unit
abbrev pub declared_in : FreeProgram → List (List ℕ × Declared)
declared_in p = flat_map (λ (unit : FreeUnit). map (λ d. (unit.name, d)) unit.declared) p.units

-- the object is the one that a unit declares; what it holds is open
abbrev pub IsDeclaredAs : List ℕ × Declared → Object → Type 0
IsDeclaredAs (home, integer_object x) o = (v : ℤ) × (o ≡ record { home = home; name = x; cells = integers (v ∷ []) })

-- the objects are those of the declarations, one after another
abbrev pub AreDeclaredAs : List (List ℕ × Declared) → Objects → Type 0
AreDeclaredAs [] [] = Unit {0}
AreDeclaredAs [] (o ∷ os) = ⊥
AreDeclaredAs (d ∷ ds) [] = ⊥
AreDeclaredAs (d ∷ ds) (o ∷ os) = IsDeclaredAs d o × AreDeclaredAs ds os

-- A run begins with the objects that the program declares. Without DATA nothing is known of what they hold.
abbrev pub IsStart : FreeProgram → Objects → Type 0
IsStart p start = AreDeclaredAs (declared_in p) start

-- the END of a main program is a STOP without code (ISO/IEC 1539:1991 section 11.1)
abbrev pub stop_at_end : ℕ → Objects → Unit {0} → Final Objects
stop_at_end n w e = ended w None

abbrev pub run_main : Objects → Option FreeUnit → ℕ → Final Objects
run_main w None m = ended w None
run_main w (Some unit) m = close (bind (body (untagged unit.name) no_function unit.code m w) unit_end) stop_at_end

-- The program after m statements, from some objects on. The main program is the first unit.
abbrev pub run90 : Objects → FreeProgram → ℕ → Final Objects
run90 start p m = run_main start (slice_get p.units 0) m
