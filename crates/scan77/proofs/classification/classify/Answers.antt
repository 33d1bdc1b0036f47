use Rattle.std.proofs.Common.{◌∙◌, sym, ap, subst}
use Rattle.tree77.specs.Kinds.{outline_of, IsKind}
use Rattle.scan77.specs.KindReading.{read_kind}
use Rattle.scan77.specs.PieceSlice.{slice_of}
use Rattle.scan77.proofs.classification.classify.Goals as goal

pub returns : goal.returns
returns c =
    let text = outline_of (slice_of c.args.pieces) in
    subst (IsKind c.args.label text) (sym (c.kind_at.ensures ∙ ap (read_kind c.args.label) c.of.ensures)) (c.one_kind.ensures.found c.args.label text)
