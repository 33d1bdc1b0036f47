use Rattle.std.proofs.Common.{arith}
use Rattle.names77.proofs.laws.roles_are_narrowed.Goals as goal

pub returns : goal.returns
returns c = (grind arith, grind arith, grind arith)
