use Rattle.std.proofs.Common.{◌∙◌, ◌∷◌, ap, sym, List}
use Rattle.text_base.specs.Pieces.{Piece, whole}
use Rattle.tree77.specs.Tokens.{stuck_open, stuck_at}
use Rattle.scan77.specs.PieceList.{kept_and_pieces}
use Rattle.scan77.specs.PieceSlice.{slice_of}
use Rattle.scan77.proofs.CutSteps.{first_plain, first_open, first_kept, kept_is_first}
use Rattle.scan77.proofs.cutting.first_token.Goals as goal

pub returns-in-Plain-clause-none : goal.returns-in-Plain-clause-none
returns-in-Plain-clause-none c =
    let p = c.args.pieces in
    let o = c.in_ok-byte in
    λ e _. stuck_at o.byte (slice_of o.more) (first_plain o.byte o.mark p.text.now o.more.text.now p.marks.now o.more.marks.now o.ensures.pieces c.in-Plain.is) (c.plain_token.ensures.none e)

pub returns-in-Open-clause-none : goal.returns-in-Open-clause-none
returns-in-Open-clause-none c =
    let p = c.args.pieces in
    let o = c.in_ok-byte in
    let behind = kept_and_pieces o.more.text.now o.more.marks.now in
    λ e _. stuck_open (o.byte ∷ behind.0) behind.1 (first_open o.byte o.mark p.text.now o.more.text.now p.marks.now o.more.marks.now o.ensures.pieces c.in-Open.is)

pub returns-in-First-clause-some : goal.returns-in-First-clause-some
returns-in-First-clause-some c =
    let p = c.args.pieces in
    let o = c.in_ok-byte in
    let behind = kept_and_pieces o.more.text.now o.more.marks.now in
    kept_is_first (o.byte ∷ behind.0) (slice_of p) (slice_of c.behind_kept.result)
    (first_kept o.byte o.mark p.text.now o.more.text.now p.marks.now o.more.marks.now o.ensures.pieces c.in-First.is
    ∙ ap (λ (ps : List Piece). whole (o.byte ∷ behind.0) ∷ ps) (sym c.behind_kept.ensures.pieces))
