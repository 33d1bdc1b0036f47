use Rattle.std.proofs.Common.{◌≡◌, ◌≤◌, take, length}
use Rattle.unit77.specs.Nesting.{named}
use Rattle.unit77.specs.Refusals.{loops, unended, has_if}
use Rattle.unit77.specs.Checking.{opens}
use Rattle.unit77.proofs.checker.look_at_end.Given as goal

abbrev pub invariant-loop-begun : goal.invariant-loop-begun
invariant-loop-begun l =
    (l.loops ≡ loops (opens (take l.begun-index l.stack)))
    × (take l.count l.loops ≡ unended l.label (opens (take l.begun-index l.stack)))
    × (l.count ≤ length l.loops)
    × (l.has_if ≡ has_if (opens (take l.begun-index l.stack)))
    × (l.is_named ≡ named l.label (opens (take l.begun-index l.stack)))
