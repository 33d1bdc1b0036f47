-- What clauses see of dummies.
use Rattle.std.specs.Prelude.{ℕ, List, [], ◌∷◌, Option, Some, None}

-- the name of a dummy, if it has one
abbrev pub dummy_of : Option (List ℕ) → List (List ℕ)
dummy_of None = []
dummy_of (Some x) = x ∷ []
