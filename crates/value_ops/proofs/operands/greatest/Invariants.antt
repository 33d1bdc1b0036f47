use Rattle.std.proofs.Common.{◌≡◌, drop, fold}
use Rattle.std.specs.Int.{int_max}
use Rattle.value_ops.proofs.Several.{integers_among}
use Rattle.value_ops.proofs.operands.greatest.Given as goal

abbrev pub invariant-loop-value : goal.invariant-loop-value
invariant-loop-value l = fold int_max l.greatest (integers_among (drop l.value-index l.rest)) ≡ fold int_max l.initial.greatest (integers_among l.rest)
