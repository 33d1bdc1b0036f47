use Rattle.std.proofs.Common.{arith}
use Rattle.names77.proofs.Rows.{role_inserted}
use Rattle.names77.proofs.roles.Roles.add.Goals as goal

pub returns : goal.returns
returns c = grind (arith, role_inserted c.args.name c.narrowed-both.result c.args.self.now.map.entries)
