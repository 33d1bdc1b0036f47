use Rattle.order77.specs.ReadViews.{readings_of}
use Rattle.order77.specs.Settling.{settled}
use Rattle.order77.proofs.SettlingLemmas.{IsLeft}
use Rattle.order77.proofs.settling.settle.Given as goal

abbrev pub invariant-loop-i : goal.invariant-loop-i
invariant-loop-i l = IsLeft l.i l.flags.items l.read-items (settled (readings_of l.fn.statements.items))
