use Rattle.std.proofs.Common.{length}
use Rattle.unit77.proofs.Checking.{IsSame}
use Rattle.unit77.proofs.checker.innermost.Given as goal

-- what was taken off so far was ended
abbrev pub invariant-loop-last : goal.invariant-loop-last
invariant-loop-last l = IsSame l.fn.stack l.stack

abbrev pub decreases-loop-last : goal.decreases-loop-last
decreases-loop-last l = length l.stack
