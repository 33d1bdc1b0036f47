use Rattle.std.proofs.Common.{◌≡◌, ℕ, List, IfOk, ap, subst}
use Rattle.text_base.specs.Pieces.{Piece}
use Rattle.tree77.specs.Kinds.{Kind, outline_of}
use Rattle.scan77.specs.Kind.{kind_of}
use Rattle.scan77.specs.KindReading.{read_kind}
use Rattle.scan77.specs.PieceSlice.{slice_of}
use Rattle.parse77.specs.Reading.{read_as, read_guarded, read_statement}
use Rattle.parse77.specs.Views.{read_made}
use Rattle.parse77.proofs.statements.read_statement.Goals as goal

by_kind : (label : ℕ) (pieces : List Piece) (k : Kind) → k ≡ read_kind label (outline_of pieces) → read_as read_guarded k pieces ≡ read_statement label pieces
unfolding read_statement
by_kind label pieces k is = ap (λ k. read_as read_guarded k pieces) is

pub returns : goal.returns
returns c =
    let pieces = slice_of c.args.pieces in
    let kind = kind_of c.classify-kind.result in
    let is = c.one_kind.ensures.only c.args.label (outline_of pieces) kind c.classify-kind.ensures in
    subst (λ read. IfOk c.of_kind.result (λ made. read_made made ≡ read)) (by_kind c.args.label pieces kind is) c.of_kind.ensures
