use Rattle.std.proofs.Common.{◌≡◌, length}
use Rattle.project_set.proofs.StatementLemmas.{so_far}
use Rattle.project_set.proofs.refusals.unbuilt_refusals.Given as goal

-- the refusals of the cards so far
abbrev pub invariant-loop-card : goal.invariant-loop-card
invariant-loop-card l = l.refusals ≡ so_far l.cards (length l.yielded)
