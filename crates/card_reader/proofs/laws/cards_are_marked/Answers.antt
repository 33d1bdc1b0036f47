use Rattle.card_reader.proofs.CardSizes.{marked, short}
use Rattle.card_reader.proofs.laws.cards_are_marked.Goals as goal

pub returns-clause-marked : goal.returns-clause-marked
returns-clause-marked c = marked

pub returns-clause-short : goal.returns-clause-short
returns-clause-short c = short
