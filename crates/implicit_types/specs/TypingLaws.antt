-- What holds of a unit of which nothing is refused.
use Rattle.std.specs.Prelude.{◌≡◌, true, false, []}
use Rattle.std.specs.List.{Contains}
use Rattle.unit77.specs.Tree.{Line}
use Rattle.unit77.specs.Programs.{ProgramUnit}
use Rattle.names77.specs.Text.{text_of}
use Rattle.names77.specs.Notes.{Note, notes_of}
use Rattle.names77.specs.Roles.{allows}
use Rattle.names77.specs.RoleTables.{allowed_as}
use Rattle.names77.specs.Known.{Known, known, role_in, is_real}
use Rattle.implicit_types.specs.PartFindings.{statement_findings}
use Rattle.implicit_types.specs.Typing.{refusals_of}

-- what all statements of a unit say of its names
abbrev pub of_unit : ProgramUnit → Known
of_unit unit = known (text_of unit)

-- the role of a name is one that everything that is said of it allows
abbrev pub EachRoleIsAllowed : Type 0
EachRoleIsAllowed = (unit : ProgramUnit) → refusals_of unit ≡ [] → (x : Note) → Contains (notes_of (text_of unit)) x
    → allows (allowed_as (of_unit unit).table x.key x.fact) (role_in (of_unit unit) x.key) ≡ true

-- no name is real
abbrev pub NoNameIsReal : Type 0
NoNameIsReal = (unit : ProgramUnit) → refusals_of unit ≡ [] → (x : Note) → Contains (notes_of (text_of unit)) x → is_real (of_unit unit) x.key ≡ false

-- nothing is found at the parts of a statement
abbrev pub EachPartFits : Type 0
EachPartFits = (unit : ProgramUnit) → refusals_of unit ≡ [] → (l : Line) → Contains (text_of unit) l → statement_findings (of_unit unit) l.statement ≡ []

abbrev pub TypedUnits : Type 0
TypedUnits = EachRoleIsAllowed × NoNameIsReal × EachPartFits
