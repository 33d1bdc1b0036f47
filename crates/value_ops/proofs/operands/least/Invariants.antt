use Rattle.std.proofs.Common.{◌≡◌, drop, fold}
use Rattle.std.specs.Int.{int_min}
use Rattle.value_ops.proofs.Several.{integers_among}
use Rattle.value_ops.proofs.operands.least.Given as goal

abbrev pub invariant-loop-value : goal.invariant-loop-value
invariant-loop-value l = fold int_min l.least (integers_among (drop l.value-index l.rest)) ≡ fold int_min l.initial.least (integers_among l.rest)
