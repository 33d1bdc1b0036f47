use Rattle.value_ops.proofs.Divisions.{truncated}
use Rattle.value_ops.proofs.laws.quotients_are_truncated.Goals as goal

pub returns : goal.returns
returns c = truncated
