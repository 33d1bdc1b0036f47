use Rattle.std.proofs.Common.{◌≡◌, ◌++◌, map, take}
use Rattle.unit77.specs.Refusals.{lacking}
use Rattle.unit77.proofs.checker.refuse.Given as goal

abbrev pub invariant-loop-mark : goal.invariant-loop-mark
invariant-loop-mark l = l.strays ≡ l.fn.strays ++ map lacking (take l.mark-index l.loops)
