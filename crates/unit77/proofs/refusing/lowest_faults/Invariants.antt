use Rattle.std.proofs.Common.{take}
use Rattle.unit77.specs.Slots.{AreLowest}
use Rattle.unit77.proofs.refusing.lowest_faults.Given as goal

abbrev pub invariant-loop-stray : goal.invariant-loop-stray
invariant-loop-stray l = AreLowest l.slots.items l.count (take l.stray-index l.strays)
