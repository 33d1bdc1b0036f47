use Rattle.std.proofs.Common.{◌∙◌, sym}
use Rattle.scan77.specs.PieceSlice.{slice_of}
use Rattle.scan77.proofs.PieceSplits.{digits_behind}
use Rattle.scan77.proofs.piece_parts.behind_digits_or_group.Goals as goal

pub returns-then-is_digit-clause-pieces : goal.returns-then-is_digit-clause-pieces
returns-then-is_digit-clause-pieces c =
    let o = c.in_ok-byte in
    digits_behind (slice_of c.args.pieces) (slice_of c.behind_digits.result) o.byte (slice_of o.field-0-1) o.ensures.pieces (sym c.is_digit.ensures ∙ c.if-is_digit.true) c.behind_digits.ensures.pieces
