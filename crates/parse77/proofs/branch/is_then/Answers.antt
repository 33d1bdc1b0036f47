use Rattle.scan77.specs.PieceSlice.{slice_of}
use Rattle.parse77.proofs.Looks.{then_is}
use Rattle.parse77.proofs.branch.is_then.Goals as goal

pub returns-in-Some : goal.returns-in-Some
returns-in-Some c = then_is (slice_of c.args.pieces) (slice_of c.in-Some.rest) c.is_empty.result c.in-Some.ensures c.is_empty.ensures
