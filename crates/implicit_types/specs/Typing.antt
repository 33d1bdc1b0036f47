-- The typing of a unit: its entities, or what its statements are refused for.
use Rattle.std.specs.Prelude.{◌≡◌, ◌≢◌, ℕ, Bool, true, false, not, List, [], ◌∷◌, ◌++◌, flat_map, Option, Some, None, if◌then◌else◌}
use Rattle.std.specs.List.{list_any}
use Rattle.text_base.specs.Values.{Value, Kind}
use Rattle.text_base.specs.declared.refusal.Place.{Place}
use Rattle.text_base.specs.declared.refusal.Cause.{Cause}
use Rattle.tree77.specs.Statements as s
use Rattle.tree77.specs.Statements.{Declared, Statement}
use Rattle.unit77.specs.Tree.{Line}
use Rattle.unit77.specs.Programs.{ProgramUnit}
use Rattle.names77.specs.declared.role.Role.{Role}
use Rattle.names77.specs.declared.role.Role.TheVariants as role
use Rattle.names77.specs.Text.{text_of}
use Rattle.names77.specs.Notes.{line_notes}
use Rattle.names77.specs.Rows.{Row}
use Rattle.names77.specs.Constants.{constant_in}
use Rattle.names77.specs.Known.{Known, known, role_in, kind_in, name_length}
use Rattle.implicit_types.specs.declared.entity.EntityKind.{EntityKind}
use Rattle.implicit_types.specs.declared.entity.EntityKind.TheVariants as kinds
use Rattle.implicit_types.specs.Findings.{Finding, along, first_lowest}
use Rattle.implicit_types.specs.NameFindings.{Before, nothing, with_line, notes_findings}
use Rattle.implicit_types.specs.PartFindings.{statement_findings}

-- ---- entities

-- a name of a unit: what it is; its type, where it has one; the length of characters, where it is known; and the value of a
-- constant
pub record Entity : Type 0 where
  pub name : List ℕ
  pub kind : EntityKind
  pub scalar : Option Kind
  pub length : Option ℕ
  pub value : Option Value

-- the name of a main program or BLOCK DATA is none of the unit's entities
abbrev pub entity_kind : Role → Option EntityKind
entity_kind role.Variable = Some kinds.Variable
entity_kind role.Dummy = Some kinds.Dummy
entity_kind role.Constant = Some kinds.Constant
entity_kind role.Result = Some kinds.Function
entity_kind role.Function = Some kinds.Function
entity_kind role.External = Some kinds.External
entity_kind role.Subroutine = Some kinds.Subroutine
entity_kind role.StmtFunction = Some kinds.StmtFunction
entity_kind role.Intrinsic = Some kinds.Intrinsic
entity_kind role.Unit = None

abbrev pub entity_of : Known → List ℕ → EntityKind → Entity
entity_of k x kind = record { name = x; kind = kind; scalar = kind_in k x; length = name_length k x; value = constant_in k.constants x }

abbrev pub entity_as : Known → List ℕ → Option EntityKind → List Entity
entity_as k x None = []
entity_as k x (Some kind) = entity_of k x kind ∷ []

-- a name that stands as a dummy of statement functions alone is none
abbrev pub row_entities : Known → List ℕ × Row → List Entity
row_entities k e = if e.1.stands then entity_as k e.0 (entity_kind (role_in k e.0)) else []

-- the entities of a unit by first appearance
abbrev pub entities_of : Known → List Entity
entities_of k = flat_map (row_entities k) k.table

-- ---- refusals

abbrev pub line_findings : Known → Before → Line → List Finding
line_findings k before l = notes_findings k before (line_notes l) ++ statement_findings k l.statement

-- the refusal of a statement: its place, the cause and the name
pub record Refused : Type 0 where
  pub place : Place
  pub cause : Cause
  pub name : List ℕ

abbrev pub refusal_at : Place → Option Finding → List Refused
refusal_at p None = []
refusal_at p (Some f) = record { place = p; cause = f.cause; name = f.name } ∷ []

-- a statement gives one refusal at most
abbrev pub line_refusals : Known → Before → Line → List Refused
line_refusals k before l = refusal_at l.place (first_lowest (line_findings k before l))

abbrev pub refusals_in : List Line → List Refused
refusals_in ls = along (with_line (known ls)) (line_refusals (known ls)) nothing ls

-- the refusals of the statements of a unit in the order of the text
abbrev pub refusals_of : ProgramUnit → List Refused
refusals_of unit = refusals_in (text_of unit)

-- ---- units without EQUIVALENCE

abbrev pub is_equivalence : Statement → Bool
is_equivalence (s.declared (s.equivalence xs)) = true
is_equivalence _ = false

abbrev pub has_no_equivalence : ProgramUnit → Bool
has_no_equivalence unit = not (list_any (λ (l : Line). is_equivalence l.statement) unit.declared)

-- ---- the typing

-- nothing is refused, and the entities are these
abbrev pub IsTyped : ProgramUnit → List Entity → Type 0
IsTyped unit entities = (refusals_of unit ≡ []) × (entities ≡ entities_of (known (text_of unit)))

-- something is refused, and these are all refusals
abbrev pub IsRefused : ProgramUnit → List Refused → Type 0
IsRefused unit refusals = (refusals ≢ []) × (refusals ≡ refusals_of unit)
