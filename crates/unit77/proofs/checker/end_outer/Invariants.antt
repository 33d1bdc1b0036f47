use Rattle.std.proofs.Common.{◌≡◌, ◌++◌, map, take, fold, length}
use Rattle.unit77.specs.Refusals.{lacking}
use Rattle.unit77.specs.Checking.{with_ended}
use Rattle.unit77.specs.declared.loops.OpenLoop.{OpenLoop}
use Rattle.unit77.proofs.checker.end_outer.Given as goal

abbrev pub invariant-loop-open : goal.invariant-loop-open
invariant-loop-open l =
    (l.stack ≡ fold with_ended l.fn.stack (take l.open-index l.loops))
    × (l.strays ≡ l.fn.strays ++ map (λ (p : OpenLoop). lacking p.mark) (take l.open-index l.loops))
    × (length l.stack ≡ length l.fn.stack)
