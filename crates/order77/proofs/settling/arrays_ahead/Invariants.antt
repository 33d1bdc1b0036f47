use Rattle.std.proofs.Common.{◌≡◌, [], drop}
use Rattle.order77.specs.NameSets.{names_in, with_names}
use Rattle.order77.proofs.SettlingLemmas.{ahead}
use Rattle.order77.proofs.settling.arrays_ahead.Given as goal

abbrev pub invariant-loop-read : goal.invariant-loop-read
invariant-loop-read l = with_names (names_in l.held) (ahead (drop l.read-index l.statements)) ≡ with_names [] (ahead l.statements)
