-- What a shelf holds: a map from names to bytes, which it may tell or not.
use Rattle.std.specs.Prelude.{◌≡◌, ◌≢◌, ℕ, List, ⊤, Option, Some, None, IfSome}
use Rattle.std.specs.Ordering.{nat_cmp}
use Rattle.std.specs.Cmp.Lexicographic.{slice_cmp}
use Rattle.std.specs.FinMap.{FinMap, get, insert}
use Rattle.std.specs.Option.{option_map}

-- a map from names to bytes
abbrev pub Files : Type 0
Files = FinMap (slice_cmp nat_cmp) (List ℕ)

-- the map, where it is told, with these bytes under this name
abbrev pub with_file : Option Files → List ℕ → List ℕ → Option Files
with_file held name bytes = option_map (λ files. insert files name bytes) held

-- Each name but this one is as before. The map is told now exactly where it was.
abbrev pub SameBut : List ℕ → Option Files → Option Files → Type 0
SameBut name None None = ⊤
SameBut name None (Some new) = ⊥
SameBut name (Some old) None = ⊥
SameBut name (Some old) (Some new) = (other : List ℕ) → other ≢ name → get new other ≡ get old other

-- where the map is told, the name is held and these are its bytes
abbrev pub HasFile : Option Files → List ℕ → List ℕ → Type 0
HasFile held name bytes = IfSome held (λ files. get files name ≡ Some bytes)

-- where the map is told, the name isn't held
abbrev pub LacksFile : Option Files → List ℕ → Type 0
LacksFile held name = IfSome held (λ files. get files name ≡ None)
