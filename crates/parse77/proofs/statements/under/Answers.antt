use Rattle.std.proofs.Common.{◌≡◌, IfOk, subst}
use Rattle.tree77.specs.Kinds.{outline_of}
use Rattle.scan77.specs.Kind.{kind_of}
use Rattle.scan77.specs.PieceSlice.{slice_of}
use Rattle.parse77.specs.Reading.{read_as, no_other}
use Rattle.parse77.specs.Views.{read_made}
use Rattle.parse77.proofs.statements.under.Goals as goal

pub returns : goal.returns
returns c =
    let pieces = slice_of c.args.pieces in
    let kind = kind_of c.classify-kind.result in
    let is = c.one_kind.ensures.only 0 (outline_of pieces) kind c.classify-kind.ensures in
    subst (λ k. IfOk c.read_plain.result (λ made. read_made made ≡ read_as no_other k pieces)) is c.read_plain.ensures
