use Rattle.scan77.specs.PieceSlice.{slice_of, split_group}
use Rattle.scan77.proofs.PieceSplits.{parted, group_parts}
use Rattle.scan77.proofs.piece_slice.PieceSlice.split_group.Goals as goal

pub returns : goal.returns
returns c =
    let all = slice_of c.args.self in
    parted all (slice_of c.part_before.result) (slice_of c.in_ok-rest.rest) (split_group all) (group_parts all) c.in_ok-rest.ensures.pieces c.part_before.ensures
