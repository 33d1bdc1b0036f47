-- What typing says of a unit that is converted, in parts.
use Rattle.std.specs.Prelude.{◌≡◌, true, not, List, [], Contains, ℕ, Option, Some, None, if◌then◌else◌}
use Rattle.std.specs.List.{list_all, list_any}
use Rattle.std.specs.Str.{bytes_eq}
use Rattle.text_base.specs.Values.{Kind, integers}
use Rattle.unit77.specs.Programs.{ProgramUnit}
use Rattle.implicit_types.specs.Typing.{Entity, refusals_of}
use Rattle.program77.specs.Plain.{is_converted, code_of, source_unit}
use Rattle.program77.specs.Typing.{is_variable, variables, code_variables, code_functions, first_seen, is_typed_code}
use Rattle.project_set.proofs.RefusalLemmas.{are_built_actions}

-- a unit that is converted, and of which nothing is refused
pub record Converted (unit : ProgramUnit) : Type 0 where
  pub converted : is_converted unit ≡ true
  pub built : are_built_actions (code_of unit.items) ≡ true
  pub accepted : refusals_of unit ≡ []

abbrev pub unit_variables : ProgramUnit → List (List ℕ)
unit_variables unit = variables (source_unit unit)

-- the type of a name among those of integers
abbrev pub kind_among : List (List ℕ) → List ℕ → Option Kind
kind_among names x = if list_any (bytes_eq x) names then Some integers else None

abbrev pub VariablesAreNames : Type 0
VariablesAreNames = (unit : ProgramUnit) → Converted unit → unit_variables unit ≡ first_seen (code_variables (code_of unit.items))

abbrev pub NamesAreApart : Type 0
NamesAreApart = (unit : ProgramUnit) → Converted unit
    → (list_all (λ x. not (bytes_eq (source_unit unit).name x)) (code_variables (code_of unit.items)) ≡ true)
    × (list_all (λ f. not (bytes_eq (source_unit unit).name f)) (code_functions (code_of unit.items)) ≡ true)

abbrev pub VariablesAreIntegers : Type 0
VariablesAreIntegers = (unit : ProgramUnit) → Converted unit → (e : Entity) → Contains (source_unit unit).entities e → is_variable e ≡ true → e.scalar ≡ Some integers

abbrev pub FunctionsAreApart : Type 0
FunctionsAreApart = (unit : ProgramUnit) → Converted unit → list_all (λ f. not (list_any (bytes_eq f) (unit_variables unit))) (code_functions (code_of unit.items)) ≡ true

abbrev pub StatementsAreTyped : Type 0
StatementsAreTyped = (unit : ProgramUnit) → Converted unit → is_typed_code (kind_among (unit_variables unit)) (code_of unit.items) ≡ true
