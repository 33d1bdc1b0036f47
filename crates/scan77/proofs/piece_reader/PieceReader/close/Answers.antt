use Rattle.std.proofs.Common.{◌∙◌, ap, sym, length}
use Rattle.scan77.specs.PieceList.{pieces_in}
use Rattle.scan77.proofs.PieceGrowth.{take_whole, closes}
use Rattle.scan77.proofs.piece_reader.PieceReader.close.Goals as goal

pub returns-clause-pieces : goal.returns-clause-pieces
returns-clause-pieces c =
    let r = c.args.self.now in
    let n = length c.as_slice.result.now in
    let all = ap length c.as_slice.ensures in
    (λ i. pieces_in (take_whole n r.text all i) (take_whole n r.marks (all ∙ sym c.requires.marked) i))
    ∙ closes r.is_constant r.first r.text r.marks c.requires.marked c.requires.within c.requires.kept
