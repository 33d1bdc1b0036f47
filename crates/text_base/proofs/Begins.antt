-- A list that starts with another goes on from it.
use Rattle.std.proofs.Common.{◌≡◌, ℕ, List, ◌++◌, length, drop, ap, sym, ◌∙◌, take-append-drop}
use Rattle.std.specs.Io.{StartsWith}

pub goes_on : (old new : List ℕ) → StartsWith new old → (more : List ℕ) × (new ≡ old ++ more)
goes_on old new starts = (drop (length old) new, sym (take-append-drop (length old) new) ∙ ap (λ (l : List ℕ). l ++ drop (length old) new) starts)
