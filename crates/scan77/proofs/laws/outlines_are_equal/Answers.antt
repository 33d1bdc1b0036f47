use Rattle.scan77.proofs.PieceText.{outlines_equal}
use Rattle.scan77.proofs.laws.outlines_are_equal.Goals as goal

pub returns : goal.returns
returns c = outlines_equal
