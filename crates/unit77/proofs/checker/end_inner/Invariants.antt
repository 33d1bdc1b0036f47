use Rattle.std.proofs.Common.{◌≡◌, length}
use Rattle.unit77.specs.Checking.{loops_from, IsEnded}
use Rattle.unit77.proofs.checker.end_inner.Given as goal

abbrev pub invariant-loop-mark : goal.invariant-loop-mark
invariant-loop-mark l = IsEnded l.label l.fn.stack l.stack × (l.loops ≡ loops_from l.label 0 l.stack)

abbrev pub decreases-loop-mark : goal.decreases-loop-mark
decreases-loop-mark l = length l.stack
