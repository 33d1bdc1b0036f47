use Rattle.std.proofs.Common.{◌≡◌, ◌++◌}
use Rattle.unit77.specs.FileRefusals.{file_refusals}
use Rattle.order77.specs.ReadViews.{readings_of}
use Rattle.unit77.proofs.SlotLemmas.{left_refused}
use Rattle.unit77.proofs.refusing.file_refusals.Given as goal

abbrev pub invariant-loop-number : goal.invariant-loop-number
invariant-loop-number l = l.refusals ++ left_refused l.statements l.number ≡ file_refusals (readings_of l.statements)
