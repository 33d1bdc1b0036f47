use Rattle.std.proofs.Common.{arith}
use Rattle.names77.proofs.Rows.{inserted}
use Rattle.names77.proofs.table.Table.add.Goals as goal

pub returns : goal.returns
returns c = grind (arith, inserted c.args.note.key c.with_fact-row.result c.args.self.now.map.entries)
