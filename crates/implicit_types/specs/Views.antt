-- What the code answers, as the definitions have it.
use Rattle.std.specs.Prelude.{◌≡◌, List, map, Result, Ok, Err}
use Rattle.std.specs.Option.{option_map}
use Rattle.text_base.specs.Values as v
use Rattle.text_base.specs.declared.refusal.Refusal.{Refusal}
use Rattle.unit77.specs.UnitViews.{unit_of}
use Rattle.unit77.specs.declared.tree.Unit77.{Unit77}
use Rattle.names77.specs.Views.{kind_shown, shown_table, shown_roles}
use Rattle.implicit_types.specs.Findings as plain
use Rattle.implicit_types.specs.NameFindings as names
use Rattle.implicit_types.specs.Typing as typing
use Rattle.implicit_types.specs.Typing.{IsTyped, IsRefused}
use Rattle.implicit_types.specs.declared.findings.Finding.{Finding}
use Rattle.implicit_types.specs.declared.before.Before.{Before}
use Rattle.implicit_types.specs.declared.entity.Entity.{Entity}
use Rattle.implicit_types.specs.declared.typing.Typed.{Typed}
use Rattle.implicit_types.specs.declared.entity.TypeError.{TypeError}
use Rattle.implicit_types.specs.declared.entity.TypeError.TheVariants.{Refused, Memory}

abbrev pub shown_finding : Finding → plain.Finding
shown_finding f = record { cause = f.cause; name = f.name.now }

abbrev pub shown_findings : List Finding → List plain.Finding
shown_findings fs = map shown_finding fs

abbrev pub shown_before : Before → names.Before
shown_before b = record { table = shown_table b.table; roles = shown_roles b.roles }

abbrev pub shown_entity : Entity → typing.Entity
shown_entity e = record { name = e.name; kind = e.kind; scalar = option_map kind_shown e.scalar; length = e.length; value = option_map v.value_of e.value }

abbrev pub shown_refusal : Refusal → typing.Refused
shown_refusal r = record { place = r.place; cause = r.cause; name = r.name }

-- the entities of the unit, or its refusals, or memory is wanting
abbrev pub IsTyping : Unit77 → Result Typed TypeError → Type 0
IsTyping unit (Ok typed) = (typed.unit.now ≡ unit) × IsTyped (unit_of unit) (map shown_entity typed.entities)
IsTyping unit (Err (Refused refusals)) = IsRefused (unit_of unit) (map shown_refusal refusals)
IsTyping unit (Err Memory) = Unit {0}
