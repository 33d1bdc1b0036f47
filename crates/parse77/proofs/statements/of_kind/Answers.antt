use Rattle.std.proofs.Common.{◌≡◌, IfOk, subst}
use Rattle.scan77.specs.PieceSlice.{slice_of}
use Rattle.parse77.specs.Reading.{no_other, read_guarded}
use Rattle.parse77.specs.Views.{read_made}
use Rattle.parse77.proofs.SameReading.{same_reading}
use Rattle.parse77.proofs.statements.of_kind.Goals as goal

pub returns-in_default : goal.returns-in_default
returns-in_default c =
    subst (λ read. IfOk c.read_plain.result (λ made. read_made made ≡ read)) (same_reading no_other read_guarded c.args.kind (slice_of c.args.pieces) c.in_default.not-Keyword) c.read_plain.ensures
