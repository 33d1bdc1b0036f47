-- The variables of a program and their places in the store.
use Rattle.std.specs.Prelude.{◌≡◌, ◌≢◌, ◌↔◌, ℕ, ℤ, ◌+◌, ◌<◌, All, Contains, List, [], ◌∷◌, length, map, flat_map, sum_by, slice_get, Some, None, if◌then◌else◌}
use Rattle.std.specs.Str.{bytes_eq}
use Rattle.text_base.specs.Names.{action_variables}
use Rattle.text_base.specs.Trees.{Action}
use Rattle.text_base.specs.declared.refusal.Place.{Place}
use Rattle.text_base.specs.Values.{Value, integer, integers, kind_of, undefined}
use Rattle.program77.specs.Tree.{SourceUnit, SourceProgram}
use Rattle.program77.specs.Typing.{code_variables, first_seen, variables}
use Rattle.program77.specs.Layout.{Layout, Entity, layout_of, numeric_place, entity_named}
use Rattle.program77.specs.Meaning.{Store, tagged, start77}
use Rattle.tree90.specs.Meaning.{Cells, Objects, cells_of, untagged}
use Rattle.definition_laws.specs.Statements.{actions_of}
use Rattle.project_set.specs.Conversion.{IsConvertible}
use Rattle.project_set.specs.MapText.{MapLine, map_lines}

-- ---- variables

-- The variables of each unit are the names of its statements that don't stand before parentheses, each once, as they appear first.
abbrev pub AreNamed : SourceProgram → Type 0
AreNamed p = (u : SourceUnit) → Contains p.units u → variables u ≡ first_seen (code_variables u.code)

-- So they are in each source that is converted.
abbrev pub SourcesAreNamed : Type 0
SourcesAreNamed = (bytes : List ℕ) (p : SourceProgram) → IsConvertible bytes p → AreNamed p

-- Then a name is that of a variable exactly where it is one of these.
abbrev pub VariablesAreNames : Type 0
VariablesAreNames = (p : SourceProgram) (u : SourceUnit) (x : List ℕ) → AreNamed p → Contains p.units u → Contains (variables u) x ↔ Contains (code_variables u.code) x

-- They are named in the order of the text.
abbrev pub NamesAreOfStatements : Type 0
NamesAreOfStatements = (u : SourceUnit) → code_variables u.code ≡ flat_map (λ (q : Place × Action). action_variables q.1) (actions_of u.code)

-- where a name stands first among some
abbrev pub first_place : List (List ℕ) → List ℕ → ℕ
first_place [] x = 0
first_place (y ∷ ys) x = if bytes_eq y x then 0 else first_place ys x + 1

-- They are in the order in which these appear first, so no two are the same.
abbrev pub VariablesInOrder : Type 0
VariablesInOrder = (p : SourceProgram) (u : SourceUnit) (i j : ℕ) (x y : List ℕ) → AreNamed p → Contains p.units u → i < j → slice_get (variables u) i ≡ Some x → slice_get (variables u) j ≡ Some y
    → first_place (code_variables u.code) x < first_place (code_variables u.code) y

-- a variable of the unit of this number
pub record IsVariableOf (p : SourceProgram) (u : ℕ) (x : List ℕ) : Type 0 where
  pub unit : SourceUnit
  pub at : slice_get p.units u ≡ Some unit
  pub named : Contains (variables unit) x

-- ---- entities

-- exactly one entity of the unit has the name, and it is the one that is found
pub record OneEntity (layout : Layout) (u : ℕ) (x : List ℕ) : Type 0 where
  pub index : ℕ
  pub entity : Entity
  pub at : slice_get layout.entities index ≡ Some entity
  pub in_unit : entity.unit ≡ u
  pub named : entity.name ≡ x
  pub only : (other : ℕ) (that : Entity) → slice_get layout.entities other ≡ Some that → that.unit ≡ u → that.name ≡ x → other ≡ index
  pub found : entity_named layout.entities u x ≡ Some entity

-- Each variable of a unit has exactly one entity, and there are no other entities.
abbrev pub VariablesHaveEntities : Type 0
VariablesHaveEntities = (p : SourceProgram) (u : ℕ) (x : List ℕ) → AreNamed p → IsVariableOf p u x → OneEntity (layout_of p) u x

abbrev pub EntitiesAreVariables : Type 0
EntitiesAreVariables = (p : SourceProgram) (k : ℕ) (e : Entity) → slice_get (layout_of p).entities k ≡ Some e → IsVariableOf p e.unit e.name

-- the place of an entity in the store
abbrev pub place_of : Layout → Entity → ℕ
place_of layout e = numeric_place layout e.sequence e.offset

-- Different entities have different places, each within the store, which has no others.
abbrev pub PlacesAreApart : Type 0
PlacesAreApart = (p : SourceProgram) (i j : ℕ) (e f : Entity) → slice_get (layout_of p).entities i ≡ Some e → slice_get (layout_of p).entities j ≡ Some f
    → place_of (layout_of p) e ≡ place_of (layout_of p) f → i ≡ j

abbrev pub PlacesAreWithin : Type 0
PlacesAreWithin = (p : SourceProgram) (k : ℕ) (e : Entity) → slice_get (layout_of p).entities k ≡ Some e → place_of (layout_of p) e < length (start77 (layout_of p)).numbers

abbrev pub PlacesAreAll : Type 0
PlacesAreAll = (p : SourceProgram) → length (layout_of p).entities ≡ length (start77 (layout_of p)).numbers

-- ---- the store

-- A variable that is defined by an integer has that value, and the others have what they had.
abbrev pub DefinedIsRead : Type 0
DefinedIsRead = (p : SourceProgram) (u : ℕ) (x : List ℕ) (w : Store) (z : ℤ) → IsVariableOf p u x → length w.numbers ≡ length (start77 (layout_of p)).numbers
    → (tagged (layout_of p) u).read ((tagged (layout_of p) u).write w x (integer z)) x ≡ Some (integer z)

-- Where it is defined by a value of another type, it has none.
abbrev pub OtherTypesAreNotRead : Type 0
OtherTypesAreNotRead = (p : SourceProgram) (u : ℕ) (x : List ℕ) (w : Store) (v : Value) → IsVariableOf p u x → length w.numbers ≡ length (start77 (layout_of p)).numbers → kind_of v ≢ integers
    → (tagged (layout_of p) u).read ((tagged (layout_of p) u).write w x v) x ≡ None

abbrev pub OthersAreKept : Type 0
OthersAreKept = (p : SourceProgram) (u t : ℕ) (x y : List ℕ) (w : Store) (v : Value) → IsVariableOf p u x → IsVariableOf p t y → ((u ≡ t) × (x ≡ y) → ⊥)
    → (tagged (layout_of p) t).read ((tagged (layout_of p) u).write w x v) y ≡ (tagged (layout_of p) t).read w y

-- The store keeps its length.
abbrev pub LengthIsKept : Type 0
LengthIsKept = (layout : Layout) (u : ℕ) (x : List ℕ) (w : Store) (v : Value) → length ((tagged layout u).write w x v).numbers ≡ length w.numbers

-- At the start every place is undefined, and every variable.
abbrev pub StartIsUndefined : Type 0
StartIsUndefined = (layout : Layout) → All (λ h. h ≡ undefined) (start77 layout).numbers

abbrev pub NothingIsDefined : Type 0
NothingIsDefined = (layout : Layout) (u : ℕ) (x : List ℕ) → (tagged layout u).read (start77 layout) x ≡ None

-- ---- objects

-- An object that is defined by an integer has that value, and the others have what they had.
abbrev pub ObjectIsRead : Type 0
ObjectIsRead = (home x : List ℕ) (w : Objects) (cells : Cells) (z : ℤ) → cells_of w home x ≡ Some cells → (untagged home).read ((untagged home).write w x (integer z)) x ≡ Some (integer z)

abbrev pub OtherObjectsAreKept : Type 0
OtherObjectsAreKept = (home other x y : List ℕ) (w : Objects) (v : Value) → ((home ≡ other) × (x ≡ y) → ⊥) → cells_of ((untagged home).write w x v) other y ≡ cells_of w other y

-- ---- the map

-- a line's unit and object, and those of the variables of a unit
abbrev pub line_pair : MapLine → List ℕ × List ℕ
line_pair l = (l.home, l.object)

abbrev pub pairs_of : SourceUnit → List (List ℕ × List ℕ)
pairs_of unit = map {B = List ℕ × List ℕ} (λ x. (unit.name, x)) (variables unit)

-- The map has a line for each variable, in the order of the units and of the variables in each.
abbrev pub LinesAreVariables : Type 0
LinesAreVariables = (p : SourceProgram) → map line_pair (map_lines p) ≡ flat_map pairs_of p.units

abbrev pub LinesAreAsMany : Type 0
LinesAreAsMany = (p : SourceProgram) → length (map_lines p) ≡ sum_by (λ (unit : SourceUnit). length (variables unit)) p.units
