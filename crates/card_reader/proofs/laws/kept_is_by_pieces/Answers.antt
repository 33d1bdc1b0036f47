use Rattle.card_reader.proofs.KeptLaw.{marked, only}
use Rattle.card_reader.proofs.laws.kept_is_by_pieces.Goals as goal

pub returns-clause-marked : goal.returns-clause-marked
returns-clause-marked c = marked

pub returns-clause-only : goal.returns-clause-only
returns-clause-only c = only
