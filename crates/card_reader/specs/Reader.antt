-- What the reader of a file counts.
use Rattle.std.specs.Prelude.{◌<◌, IfSome}
use Rattle.card_reader.specs.declared.reader.Reader.{Reader}

-- of the lines so far, fewer than the number of the next one go on with the last statement, and fewer are cut off
pub record HasCounted (reader : Reader) : Type 0 where
  pub continued : IfSome reader.state (λ state. state.continued < reader.next.line)
  pub cut : reader.deck.cut < reader.next.line
