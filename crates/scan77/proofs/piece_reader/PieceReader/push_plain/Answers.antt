use Rattle.std.proofs.Common.{ap, length}
use Rattle.scan77.proofs.PieceGrowth.{pushes_plain}
use Rattle.scan77.proofs.piece_reader.PieceReader.push_plain.Goals as goal

pub returns-clause-pieces : goal.returns-clause-pieces
returns-clause-pieces c =
    let r = c.args.self.now in
    pushes_plain c.args.byte (length c.as_slice.result.now) r.first r.text c.push-2.new.self r.marks c.push.new.self c.requires.marked.marked c.requires.closed
    c.in_ok-push-2.ensures.ok c.in_ok-push.ensures.ok (ap length c.as_slice.ensures)
