use Rattle.std.proofs.Common.{rules, FitsSigned, w32}
use Rattle.std.proofs.lemmas.Int.{to_z-of_z}
use Rattle.std.specs.Int.{int_max}
use Rattle.value_ops.proofs.Several.{outermost_is}
use Rattle.value_ops.proofs.operands.greatest.Goals as goal

pub returns : goal.returns
returns c =
    let first = c.first_integer-greatest.result in
    let f : FitsSigned w32 first.0 = search rules in
    outermost_is int_max c.args.values.now first.0 first.1.now c.loop-value.value-index _ c.first_integer-greatest.ensures c.requires c.loop-value-test.false (simp to_z-of_z at c.loop-value.invariant)
