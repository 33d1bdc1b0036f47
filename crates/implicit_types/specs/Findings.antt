-- What is found at the statements of a unit, and which finding a statement is refused for.
use Rattle.std.specs.Prelude.{ℕ, Bool, nat_lt, List, [], ◌∷◌, ◌++◌, Option, Some, None, if◌then◌else◌}
use Rattle.std.specs.List.{list_any}
use Rattle.text_base.specs.declared.refusal.Cause.{Cause}
use Rattle.text_base.specs.Causes.{cause_number}

-- a cause, and the name that shows what it is about
pub record Finding : Type 0 where
  pub cause : Cause
  pub name : List ℕ

abbrev pub finding : Cause → List ℕ → Bool → List Finding
finding c x found = if found then record { cause = c; name = x } ∷ [] else []

-- what is found at each of some things, of which `next` takes one into what is known before the others
abbrev pub along : {B X Y : Type 0} → (B → X → B) → (B → X → List Y) → B → List X → List Y
along next found before [] = []
along next found before (x ∷ xs) = found before x ++ along next found (next before x) xs

-- ---- the lowest cause, and of equal ones the first from left to right

abbrev pub is_lower : Finding → Finding → Bool
is_lower p q = nat_lt (cause_number p.cause) (cause_number q.cause)

abbrev pub first_lowest : List Finding → Option Finding
first_lowest [] = None
first_lowest (p ∷ ps) = if list_any (λ q. is_lower q p) ps then first_lowest ps else Some p

-- of two the lower one; among equal ones the first
abbrev pub better : Option Finding → Finding → Option Finding
better None p = Some p
better (Some k) p = if is_lower p k then Some p else Some k
