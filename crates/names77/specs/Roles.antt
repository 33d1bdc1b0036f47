-- The roles of names (X3.9 section 18.2). Each thing that is said of a name allows some; of two that don't agree the first counts.
use Rattle.std.specs.Prelude.{Bool, true, false, not, List, [], ◌∷◌, if◌then◌else◌}
use Rattle.std.specs.List.{list_any}
use Rattle.names77.specs.declared.role.Role.{Role}
use Rattle.names77.specs.declared.role.Role.TheVariants.{Variable, Dummy, Constant, Result, Function, External, Subroutine, StmtFunction, Intrinsic, Unit}
use Rattle.names77.specs.declared.role.Allowed.{Allowed}
use Rattle.names77.specs.declared.role.Allowed.TheVariants.{Anything, Valued, Definable, Dimensioned, Procedure, Only}
use Rattle.names77.specs.Notes as n
use Rattle.names77.specs.Notes.{Fact}

abbrev pub is_role : Role → Role → Bool
is_role Variable Variable = true
is_role Dummy Dummy = true
is_role Constant Constant = true
is_role Result Result = true
is_role Function Function = true
is_role External External = true
is_role Subroutine Subroutine = true
is_role StmtFunction StmtFunction = true
is_role Intrinsic Intrinsic = true
is_role Unit Unit = true
is_role _ _ = false

abbrev pub every_role : List Role
every_role = Variable ∷ Dummy ∷ Constant ∷ Result ∷ Function ∷ External ∷ Subroutine ∷ StmtFunction ∷ Intrinsic ∷ Unit ∷ []

-- the roles that are allowed
abbrev pub roles_in : Allowed → List Role
roles_in Anything = every_role
roles_in Valued = Variable ∷ Dummy ∷ Constant ∷ Result ∷ []
roles_in Definable = Variable ∷ Dummy ∷ Result ∷ []
roles_in Dimensioned = Variable ∷ Dummy ∷ []
roles_in Procedure = Function ∷ External ∷ Subroutine ∷ []
roles_in (Only r) = r ∷ []

abbrev pub allows : Allowed → Role → Bool
allows a r = list_any (is_role r) (roles_in a)

-- one that both allow
abbrev pub agree : Allowed → Allowed → Bool
agree a b = list_any (allows b) (roles_in a)

-- Of two that agree one allows no more than the other.
abbrev pub is_within : Allowed → Allowed → Bool
is_within a b = not (list_any (λ r. not (allows b r)) (roles_in a))

-- what both allow, where they agree
abbrev pub narrowed : Allowed → Allowed → Allowed
narrowed a b = if is_within b a then b else a

-- the role of a name of which no more is said
abbrev pub first_role : Allowed → Role
first_role Anything = Variable
first_role Valued = Variable
first_role Definable = Variable
first_role Dimensioned = Variable
first_role Procedure = External
first_role (Only r) = r

-- ---- what is said of a name

-- what a fact allows by itself; what stands before a list, or alone in one, may be anything that the whole unit makes it
abbrev pub allowed_by : Fact → Allowed
allowed_by (n.typed type_) = Anything
allowed_by (n.shaped ds) = Dimensioned
allowed_by n.titled = Only Unit
allowed_by n.result = Only Result
allowed_by n.subroutine = Only Subroutine
allowed_by n.dummy = Only Dummy
allowed_by n.common = Only Variable
allowed_by n.equivalent = Only Variable
allowed_by n.external = Procedure
allowed_by n.intrinsic = Only Intrinsic
allowed_by n.initial = Valued
allowed_by (n.constant e) = Only Constant
allowed_by (n.function ds) = Only StmtFunction
allowed_by (n.parameter refused) = Valued
allowed_by n.valued = Valued
allowed_by n.variable = Definable
allowed_by (n.referred c) = Anything
allowed_by n.given = Anything
allowed_by (n.given_to f) = Anything
