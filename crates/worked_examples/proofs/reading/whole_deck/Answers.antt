use Rattle.std.proofs.Common.{refl}
use Rattle.worked_examples.proofs.reading.whole_deck.Goals as goal

pub returns : goal.returns
returns c = record { statements = refl; comments = refl }
