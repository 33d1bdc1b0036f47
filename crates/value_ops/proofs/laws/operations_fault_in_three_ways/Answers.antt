use Rattle.value_ops.proofs.Rows.{three_ways}
use Rattle.value_ops.proofs.laws.operations_fault_in_three_ways.Goals as goal

pub returns : goal.returns
returns c = three_ways
