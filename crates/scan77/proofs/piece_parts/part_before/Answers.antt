use Rattle.std.proofs.Common.{◌∙◌}
use Rattle.scan77.specs.PieceList.{pieces_in}
use Rattle.scan77.proofs.PieceParts.{part_pieces}
use Rattle.scan77.proofs.piece_parts.part_before.Goals as goal

pub returns : goal.returns
returns c = λ first e.
    (λ i. pieces_in (c.of.ensures.text i) (c.of.ensures.marks i))
    ∙ part_pieces c.args.pieces c.args.rest c.requires c.before-2.result.now c.marks_before.result.now c.before-2.ensures c.marks_before.ensures first e
