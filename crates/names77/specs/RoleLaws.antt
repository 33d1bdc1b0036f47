-- What holds of the roles that are allowed.
use Rattle.std.specs.Prelude.{true, false, ◌&&◌, ◌≡◌}
use Rattle.names77.specs.declared.role.Role.{Role}
use Rattle.names77.specs.declared.role.Allowed.{Allowed}
use Rattle.names77.specs.Roles.{allows, agree, narrowed, first_role}

-- what is left of two that agree allows what both allow
abbrev pub BothAllow : Type 0
BothAllow = (a b : Allowed) (r : Role) → agree a b ≡ true → allows (narrowed a b) r ≡ (allows a r && allows b r)

-- of two that don't agree the first counts
abbrev pub FirstCounts : Type 0
FirstCounts = (a b : Allowed) → agree a b ≡ false → narrowed a b ≡ a

-- a name of which no more is said has a role that is allowed
abbrev pub FirstRoleIsAllowed : Type 0
FirstRoleIsAllowed = (a : Allowed) → allows a (first_role a) ≡ true

abbrev pub RolesAreNarrowed : Type 0
RolesAreNarrowed = BothAllow × FirstCounts × FirstRoleIsAllowed
