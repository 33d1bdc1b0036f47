-- Statements that are settled are as they were, but for statement functions in place of assignments.
use Rattle.std.proofs.Common.{◌≡◌, Bool, true, false, List, [], ◌∷◌, map, length, arith}
use Rattle.std.specs.List.{zip}
use Rattle.std.specs.Option.{option_map}
use Rattle.order77.specs.Counts.{Reading}
use Rattle.order77.specs.Settling.{as_function, arrays_ahead, functions, settled_as, settled}
use Rattle.order77.proofs.SettlingLemmas.{behind_length}

-- lists of one length, and each pair of elements at the same place
abbrev pub Pairwise : {A : Type 0} → (A → A → Type 0) → List A → List A → Type 0
Pairwise P [] [] = Unit {0}
Pairwise P (x ∷ xs) (y ∷ ys) = P x y × Pairwise P xs ys
Pairwise P xs ys = ⊥

each_as : (P : Reading → Reading → Type 0) → ((r : Reading) → P r r) → ((r : Reading) → P r (record r { statement = option_map as_function r.statement }))
    → (fs : List Bool) (rs : List Reading) → length fs ≡ length rs → Pairwise P rs (map settled_as (zip fs rs))
each_as P same made [] [] e = tt
each_as P same made (true ∷ fs) (r ∷ rs) e = (made r, each_as P same made fs rs (omega arith))
each_as P same made (false ∷ fs) (r ∷ rs) e = (same r, each_as P same made fs rs (omega arith))
each_as P same made [] (r ∷ rs) e = absurd (omega arith)
each_as P same made (f ∷ fs) [] e = absurd (omega arith)

-- what holds between each statement and itself, and between each and the statement function that has its form
pub settled_each : (P : Reading → Reading → Type 0) → ((r : Reading) → P r r) → ((r : Reading) → P r (record r { statement = option_map as_function r.statement }))
    → (rs : List Reading) → Pairwise P rs (settled rs)
settled_each P same made rs = each_as P same made (functions rs) rs (behind_length false (arrays_ahead rs) rs)
