use Rattle.std.proofs.Common.{◌≡◌, drop}
use Rattle.text_base.specs.Operations.{place_in}
use Rattle.value_ops.proofs.Places.{shifted}
use Rattle.value_ops.proofs.text.place_in.Given as goal

abbrev pub invariant-loop-start : goal.invariant-loop-start
invariant-loop-start l = place_in l.text l.part ≡ shifted l.start (place_in (drop l.start l.text) l.part)
