use Rattle.scan77.proofs.PieceLaw.{found, only}
use Rattle.scan77.proofs.PieceText.{joined}
use Rattle.scan77.proofs.laws.one_list_of_pieces.Goals as goal

pub returns-clause-found : goal.returns-clause-found
returns-clause-found c = found

pub returns-clause-only : goal.returns-clause-only
returns-clause-only c = only

pub returns-clause-joined : goal.returns-clause-joined
returns-clause-joined c = joined
