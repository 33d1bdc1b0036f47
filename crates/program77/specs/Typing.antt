-- The variables of a unit, and the types of its statements.
use Rattle.std.specs.Prelude.{ℕ, Bool, true, false, not, ◌&&◌, List, [], ◌∷◌, ◌++◌, map, filter, Option, Some, None, if◌then◌else◌}
use Rattle.std.specs.List.{list_any}
use Rattle.std.specs.Str.{bytes_eq}
use Rattle.text_base.specs.Names.{action_variables, action_functions}
use Rattle.text_base.specs.Values.{Kind, integers}
use Rattle.text_base.specs.ExpressionKinds.{is_typed_action}
use Rattle.implicit_types.specs.Typing.{Entity}
use Rattle.implicit_types.specs.declared.entity.EntityKind.{EntityKind}
use Rattle.implicit_types.specs.declared.entity.EntityKind.TheVariants as kinds
use Rattle.program77.specs.Tree.{Stmt, simple, continue, Code, done, item, SourceUnit}

-- ---- variables

abbrev pub is_variable_kind : EntityKind → Bool
is_variable_kind kinds.Variable = true
is_variable_kind _ = false

abbrev pub is_variable : Entity → Bool
is_variable e = is_variable_kind e.kind

-- the names of the unit's variables, by first appearance
abbrev pub variables : SourceUnit → List (List ℕ)
variables unit = map (λ (e : Entity). e.name) (filter is_variable unit.entities)

-- the type of a name: all variables that are converted are integers
abbrev pub kind_in : SourceUnit → List ℕ → Option Kind
kind_in unit x = if list_any (bytes_eq x) (variables unit) then Some integers else None

-- ---- the types of statements

abbrev pub is_typed_stmt : (List ℕ → Option Kind) → Stmt → Bool
is_typed_stmt kinds (simple a) = is_typed_action kinds a
is_typed_stmt kinds continue = true

abbrev pub is_typed_code : (List ℕ → Option Kind) → Code → Bool
is_typed_code kinds done = true
is_typed_code kinds (item label here s rest) = is_typed_stmt kinds s && is_typed_code kinds rest

-- each part of each statement has the type that its place needs
abbrev pub is_typed : SourceUnit → Bool
is_typed unit = is_typed_code (kind_in unit) unit.code

-- ---- the names of statements, as they stand in the text

-- those that don't stand before parentheses
abbrev pub stmt_variables : Stmt → List (List ℕ)
stmt_variables (simple a) = action_variables a
stmt_variables continue = []

abbrev pub code_variables : Code → List (List ℕ)
code_variables done = []
code_variables (item label here s rest) = stmt_variables s ++ code_variables rest

-- those that stand before parentheses
abbrev pub stmt_functions : Stmt → List (List ℕ)
stmt_functions (simple a) = action_functions a
stmt_functions continue = []

abbrev pub code_functions : Code → List (List ℕ)
code_functions done = []
code_functions (item label here s rest) = stmt_functions s ++ code_functions rest

-- each name once, where it appears first
abbrev pub first_seen : List (List ℕ) → List (List ℕ)
first_seen [] = []
first_seen (x ∷ xs) = x ∷ filter (λ y. not (bytes_eq x y)) (first_seen xs)

-- a name that isn't the unit's own, as those of its variables and of the intrinsic functions that it refers to are (X3.9
-- section 14.1)
abbrev pub is_local : List ℕ → List ℕ → Bool
is_local unit x = not (bytes_eq unit x)
