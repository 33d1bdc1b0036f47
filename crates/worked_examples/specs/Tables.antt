-- Rows of a table.
use Rattle.std.specs.Prelude.{◌≡◌, List, map, All}

-- in each row a function gives the second of the first
abbrev pub Gives : {A B : Type 0} → (A → B) → List (A × B) → Type 0
Gives f rows = map (λ row. f row.0) rows ≡ map (λ row. row.1) rows

-- the first and the second of each row are related
abbrev pub Holds : {A B : Type 0} → (A → B → Type 0) → List (A × B) → Type 0
Holds related rows = All (λ row. related row.0 row.1) rows
