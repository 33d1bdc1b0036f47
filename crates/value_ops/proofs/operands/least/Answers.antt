use Rattle.std.proofs.Common.{rules, FitsSigned, w32}
use Rattle.std.proofs.lemmas.Int.{to_z-of_z}
use Rattle.std.specs.Int.{int_min}
use Rattle.value_ops.proofs.Several.{outermost_is}
use Rattle.value_ops.proofs.operands.least.Goals as goal

pub returns : goal.returns
returns c =
    let first = c.first_integer-least.result in
    let f : FitsSigned w32 first.0 = search rules in
    outermost_is int_min c.args.values.now first.0 first.1.now c.loop-value.value-index _ c.first_integer-least.ensures c.requires c.loop-value-test.false (simp to_z-of_z at c.loop-value.invariant)
