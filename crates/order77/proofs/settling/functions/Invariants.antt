use Rattle.std.proofs.Common.{◌≡◌, ◌++◌, drop}
use Rattle.order77.specs.NameSets.{names_in}
use Rattle.order77.specs.ReadViews.{readings_of}
use Rattle.order77.specs.Settling.{functions_behind, functions}
use Rattle.order77.proofs.settling.functions.Given as goal

abbrev pub invariant-loop-i : goal.invariant-loop-i
invariant-loop-i l = l.flags.items ++ functions_behind l.is_executed (names_in l.held) (readings_of (drop l.i l.statements)) ≡ functions (readings_of l.statements)
