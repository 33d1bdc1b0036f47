-- What typing says of the unit of a source that is converted.
use Rattle.std.specs.Prelude.{◌≡◌, ℕ, IsTrue, not, List, Contains, Some}
use Rattle.std.specs.List.{list_all, list_any}
use Rattle.std.specs.Str.{bytes_eq}
use Rattle.text_base.specs.Values.{integers}
use Rattle.implicit_types.specs.Typing.{Entity}
use Rattle.program77.specs.Tree.{SourceUnit, SourceProgram}
use Rattle.program77.specs.Typing.{is_variable, variables, code_variables, code_functions, first_seen, is_local, is_typed}
use Rattle.project_set.specs.Conversion.{IsConvertible}

-- The unit's variables are the names of its statements that don't stand before parentheses, each once, as they appear first, and
-- they are integers. Its functions aren't among them, nothing has its own name, and each part of each statement has the type
-- that its place needs.
pub record IsTypedUnit (unit : SourceUnit) : Type 0 where
  pub names : variables unit ≡ first_seen (code_variables unit.code)
  pub integers_alone : (e : Entity) → Contains unit.entities e → IsTrue (is_variable e) → e.scalar ≡ Some integers
  pub apart : IsTrue (list_all (λ f. not (list_any (bytes_eq f) (variables unit))) (code_functions unit.code))
  pub own : IsTrue (list_all (is_local unit.name) (code_variables unit.code))
  pub own_functions : IsTrue (list_all (is_local unit.name) (code_functions unit.code))
  pub typed : IsTrue (is_typed unit)

-- the unit of a source that is converted is such a one
abbrev pub SourcesAreTyped : Type 0
SourcesAreTyped = (bytes : List ℕ) (p : SourceProgram) → IsConvertible bytes p → (unit : SourceUnit) → Contains p.units unit → IsTypedUnit unit
