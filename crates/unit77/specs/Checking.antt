-- What the checker keeps of the constructs that were begun, and which are open by it.
use Rattle.std.specs.Prelude.{◌≡◌, ◌==◌, ◌≤◌, ◌+◌, ℕ, suc, false, List, [], ◌∷◌, ◌++◌, length, fold, slice_set, Option, Some, None, if◌then◌else◌, nat_eq, is_some, IfNone}
use Rattle.indexmap.specs.IndexMap.{get}
use Rattle.order77.specs.declared.mark.Mark.{Mark}
use Rattle.unit77.specs.declared.loops.OpenLoop.{OpenLoop}
use Rattle.unit77.specs.declared.loops.OpenLoops.{OpenLoops}
use Rattle.unit77.specs.declared.checker.Checker.{Checker}
use Rattle.unit77.specs.Nesting.{names}
use Rattle.unit77.specs.Refusals.{without, strays}

-- ---- the open DOs by their labels

abbrev pub found : Option (List OpenLoop) → List OpenLoop
found None = []
found (Some loops) = loops

abbrev pub loops_for : OpenLoops → ℕ → List OpenLoop
loops_for loops k = found (get nat_eq loops.map k)

-- ---- the stack of what was begun, the innermost last; `None` stands for a DO that was ended

abbrev pub with_begun : List Mark → Option Mark → List Mark
with_begun hs None = hs
with_begun hs (Some m) = m ∷ hs

-- the open constructs, the innermost first
abbrev pub opens : List (Option Mark) → List Mark
opens stack = fold with_begun [] stack

-- the DO at a place, if it names the label
abbrev pub loop_at : ℕ → ℕ → Option Mark → List OpenLoop
loop_at k n None = []
loop_at k n (Some m) = if names k m.sort then record { at = n; mark = m } ∷ [] else []

-- the open DOs that name the label, the innermost last; the first of the stack stands at `n`
abbrev pub loops_from : ℕ → ℕ → List (Option Mark) → List OpenLoop
loops_from k n [] = []
loops_from k n (o ∷ os) = loop_at k n o ++ loops_from k (suc n) os

-- the DO at a place is ended
abbrev pub with_ended : List (Option Mark) → OpenLoop → List (Option Mark)
with_ended stack p = slice_set stack p.at None

-- an open construct was the innermost one, if any
pub record IsInnermost (old : List (Option Mark)) (o : Option Mark) (new : List (Option Mark)) : Type 0 where
  pub open_ : opens old ≡ with_begun (opens new) o
  pub loops : (k : ℕ) → loops_from k 0 old ≡ loops_from k 0 new ++ loop_at k (length new) o
  pub short : length new + (if is_some o then 1 else 0) ≤ length old
  pub last : IfNone o (new ≡ [])

-- the innermost DOs, which name the label, were ended
pub record IsEnded (k : ℕ) (old : List (Option Mark)) (new : List (Option Mark)) : Type 0 where
  pub kept : without k (opens new) ≡ without k (opens old)
  pub strays : strays k (opens new) ≡ strays k (opens old)
  pub others : (j : ℕ) → (j == k) ≡ false → loops_from j 0 new ≡ loops_from j 0 old
  pub short : length new ≤ length old

-- ---- the checker

abbrev pub open_of : Checker → List Mark
open_of c = opens c.stack

-- The open DOs are found by their labels, the open constructs are counted, and at most `n` were begun.
pub record IsSound (n : ℕ) (c : Checker) : Type 0 where
  pub loops : (k : ℕ) → loops_for c.loops k ≡ loops_from k 0 c.stack
  pub count : c.count ≡ length (open_of c)
  pub short : length c.stack ≤ n
