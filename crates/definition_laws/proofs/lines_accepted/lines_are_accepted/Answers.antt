use Rattle.definition_laws.proofs.AcceptedLines.{lines_are_accepted, cards_are_readable}
use Rattle.definition_laws.proofs.lines_accepted.lines_are_accepted.Goals as goal

pub returns : goal.returns
returns c = record { lines = lines_are_accepted; cards = cards_are_readable }
