use Rattle.std.proofs.Common.{sym}
use Rattle.scan77.proofs.PieceShape.{pieces_outline}
use Rattle.scan77.proofs.outline.Outline.of.Goals as goal

pub returns : goal.returns
returns c = sym (pieces_outline c.args.pieces.text.now c.args.pieces.marks.now)
