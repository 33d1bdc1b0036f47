use Rattle.std.proofs.Common.{sym}
use Rattle.scan77.proofs.PieceShape.{pieces_text}
use Rattle.scan77.proofs.piece_slice.PieceSlice.characters.Goals as goal

pub returns : goal.returns
returns c = sym (pieces_text c.args.self.text.now c.args.self.marks.now)
