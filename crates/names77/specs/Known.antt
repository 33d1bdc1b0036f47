-- What a unit says of its names: their roles, types, lengths and values.
use Rattle.std.specs.Prelude.{ℕ, Bool, not, ◌&&◌, List, length, Option, Some, None, is_some, if◌then◌else◌}
use Rattle.std.specs.Option.{option_map, option_and_then}
use Rattle.text_base.specs.Values.{Value, string, Kind, characters}
use Rattle.tree77.specs.Statements as s
use Rattle.tree77.specs.Statements.{Length}
use Rattle.unit77.specs.Tree.{Line}
use Rattle.names77.specs.declared.role.Role.{Role}
use Rattle.names77.specs.declared.role.Role.TheVariants as role
use Rattle.names77.specs.Notes.{NameType, notes_of}
use Rattle.names77.specs.Rows.{Table, rows_of, row_in}
use Rattle.names77.specs.Roles.{first_role}
use Rattle.names77.specs.RoleTables.{Roles, roles_of, allowed_in}
use Rattle.names77.specs.Types.{Initial, initials_of, has_type, type_as}
use Rattle.names77.specs.Constants.{Constants, constants_of, constant_in, is_length, length_in}

pub record Known : Type 0 where
  pub table : Table
  pub roles : Roles
  pub initials : List Initial
  pub constants : Constants

-- what these statements, which are all of a unit, say
abbrev pub known : List Line → Known
known ls = record {
  table = rows_of (notes_of ls);
  roles = roles_of (rows_of (notes_of ls)) (notes_of ls);
  initials = initials_of ls;
  constants = constants_of (rows_of (notes_of ls)) (initials_of ls) ls;
}

-- ---- one name

abbrev pub role_in : Known → List ℕ → Role
role_in k x = first_role (allowed_in k.roles x)

abbrev pub type_in : Known → List ℕ → Option NameType
type_in k x = type_as k.initials x (row_in k.table x) (role_in k x)

abbrev pub kind_in : Known → List ℕ → Option Kind
kind_in k x = option_map (λ (t : NameType). t.kind) (type_in k x)

-- its role has a type, and by the rules on types it is real
abbrev pub is_real : Known → List ℕ → Bool
is_real k x = has_type (role_in k x) && not (is_some (type_in k x))

abbrev pub is_array : Known → List ℕ → Bool
is_array k x = is_some (row_in k.table x).shape

-- ---- the length of characters

abbrev pub text_length : Option Value → Option ℕ
text_length (Some (string t)) = if is_length (length t) then Some (length t) else None
text_length _ = None

-- a constant with the length `*` has that of its value (X3.9 section 8.6)
abbrev pub length_as : Constants → List ℕ → Role → Option Length → Option ℕ
length_as constants x role.Constant (Some s.assumed) = text_length (constant_in constants x)
length_as constants x r l = length_in constants l

abbrev pub typed_length : Known → List ℕ → NameType → Kind → Option ℕ
typed_length k x t characters = length_as k.constants x (role_in k x) t.length
typed_length k x t _ = None

-- the length of a name of characters, where it is known
abbrev pub name_length : Known → List ℕ → Option ℕ
name_length k x = option_and_then (λ (t : NameType). typed_length k x t t.kind) (type_in k x)
