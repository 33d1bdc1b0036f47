use Rattle.std.proofs.Common.{arith}
use Rattle.value_ops.proofs.Rows.{needs}
use Rattle.value_ops.proofs.operation.apply.Goals as goal

pub greatest-requires : goal.greatest-requires
greatest-requires c = let n = needs c.args.op _ c.requires in grind arith

pub least-requires : goal.least-requires
least-requires c = let n = needs c.args.op _ c.requires in grind arith
