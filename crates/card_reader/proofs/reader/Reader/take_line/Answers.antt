use Rattle.std.proofs.Common.{arith}
use Rattle.card_reader.proofs.Checking.{fewer_after}
use Rattle.card_reader.proofs.reader.Reader.take_line.Goals as goal

pub returns-clause-counted : goal.returns-clause-counted
returns-clause-counted c = record {
  continued = fewer_after c.args.self.now.state c.after_line-state.result.0 _ c.args.line.now c.args.self.now.next.line c.after_line-state.ensures.state c.requires.counted.continued;
  cut = omega (arith, c.in_ok-read_line.ensures.cut, c.requires.counted.cut);
}
