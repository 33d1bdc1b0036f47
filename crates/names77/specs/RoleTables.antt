-- The roles of the names of a unit: what is said of each narrows what it may be (X3.9 section 18.2).
use Rattle.std.specs.Prelude.{ℕ, Bool, true, false, not, ◌&&◌, ◌||◌, List, map, is_some, if◌then◌else◌}
use Rattle.std.specs.Str.{bytes_eq}
use Rattle.text_base.specs.Operators.{intrinsic}
use Rattle.names77.specs.declared.role.Role.TheVariants.{Result, Function, StmtFunction, Intrinsic}
use Rattle.names77.specs.declared.role.Allowed.{Allowed}
use Rattle.names77.specs.declared.role.Allowed.TheVariants.{Anything, Valued, Dimensioned, Only}
use Rattle.names77.specs.Grouped.{Said, Grouped}
use Rattle.names77.specs.Grouped as g
use Rattle.names77.specs.Notes as n
use Rattle.names77.specs.Notes.{Fact, Note}
use Rattle.names77.specs.Roles.{narrowed, allowed_by}
use Rattle.names77.specs.Rows.{Row, Table, row_in}

-- ---- what the whole unit says

-- A name before a list in parentheses is an array, a statement function of the unit, the unit's own function, an intrinsic
-- function unless EXTERNAL names it, or else another function (X3.9 sections 15.2 and 18.2).
abbrev pub referred_as : List ℕ → Row → Allowed
referred_as x r =
    if is_some r.shape then Dimensioned else
    (if is_some r.dummies then Only StmtFunction else
    (if r.is_result then Only Result else
    (if r.is_intrinsic || (is_some (intrinsic x) && not r.is_external) then Only Intrinsic else Only Function)))

-- it is a function that stands elsewhere
abbrev pub is_called : Allowed → Bool
is_called (Only Function) = true
is_called (Only Result) = true
is_called _ = false

-- an actual argument of a subroutine or of such a function may be a procedure that a declaration names
abbrev pub given_as : Row → Allowed
given_as r = if r.is_external || r.is_intrinsic then Anything else Valued

-- what a fact about a name allows
abbrev pub allowed_as : Table → List ℕ → Fact → Allowed
allowed_as t x (n.referred c) = referred_as x (row_in t x)
allowed_as t x n.given = given_as (row_in t x)
allowed_as t x (n.given_to f) = if is_called (referred_as f (row_in t f)) then given_as (row_in t x) else Valued
allowed_as t x f = allowed_by f

abbrev pub RoleNote : Type 0
RoleNote = Said (List ℕ) Allowed

abbrev pub role_note : Table → Note → RoleNote
role_note t n = record { key = n.key; fact = allowed_as t n.key n.fact }

abbrev pub Roles : Type 0
Roles = Grouped (List ℕ) Allowed

-- ---- one name in the whole unit

abbrev pub roles_of : Table → List Note → Roles
roles_of t notes = g.rows_of bytes_eq narrowed Anything (map (role_note t) notes)

-- ---- as they are found one after another

abbrev pub allowed_in : Roles → List ℕ → Allowed
allowed_in roles x = g.look_up_or bytes_eq Anything roles x

abbrev pub with_role : Roles → RoleNote → Roles
with_role roles n = g.with_note bytes_eq narrowed Anything roles n

abbrev pub with_roles : Roles → List RoleNote → Roles
with_roles roles notes = g.with_notes bytes_eq narrowed Anything roles notes
