use Rattle.std.proofs.Common.{◌≡◌, ◌∙◌, ◌∷◌, ap, sym, List, Some}
use Rattle.text_base.specs.Pieces.{Piece, whole, broken}
use Rattle.scan77.specs.PieceList.{kept_and_pieces}
use Rattle.scan77.specs.PieceSlice.{slice_of, uncons_piece}
use Rattle.scan77.proofs.CutSteps.{first_open, first_kept}
use Rattle.scan77.proofs.PieceEnds.{piece_in_front, piece_found}
use Rattle.scan77.proofs.PieceParts.{behind_more}
use Rattle.scan77.proofs.piece_slice.PieceSlice.split_piece.Goals as goal

pub before-requires : goal.before-requires
before-requires c =
    let p = c.args.self in
    let o = c.in_ok-byte in
    let r = c.behind_kept-rest in
    let k = kept_and_pieces o.more.text.now o.more.marks.now in
    let e = first_open o.byte o.mark p.text.now o.more.text.now p.marks.now o.more.marks.now o.ensures.pieces c.in-Open.is in
    (o.byte ∷ k.0, piece_in_front (broken (o.byte ∷ k.0)) p.text.now r.result.text.now p.marks.now r.result.marks.now (e ∙ ap (λ (ps : List Piece). broken (o.byte ∷ k.0) ∷ ps) (sym r.ensures.pieces)))

pub before-requires-in-First : goal.before-requires-in-First
before-requires-in-First c =
    let p = c.args.self in
    let o = c.in_ok-byte in
    let r = c.behind_kept-rest-in-First in
    let k = kept_and_pieces o.more.text.now o.more.marks.now in
    let e = first_kept o.byte o.mark p.text.now o.more.text.now p.marks.now o.more.marks.now o.ensures.pieces c.in-First.is in
    (o.byte ∷ k.0, piece_in_front (whole (o.byte ∷ k.0)) p.text.now r.result.text.now p.marks.now r.result.marks.now (e ∙ ap (λ (ps : List Piece). whole (o.byte ∷ k.0) ∷ ps) (sym r.ensures.pieces)))

pub returns-in-Open-clause-pieces : goal.returns-in-Open-clause-pieces
returns-in-Open-clause-pieces c =
    let p = c.args.self in
    let o = c.in_ok-byte in
    let r = c.behind_kept-rest in
    let k = kept_and_pieces o.more.text.now o.more.marks.now in
    let e : slice_of p ≡ broken (o.byte ∷ k.0) ∷ slice_of r.result =
    first_open o.byte o.mark p.text.now o.more.text.now p.marks.now o.more.marks.now o.ensures.pieces c.in-Open.is ∙ ap (λ (ps : List Piece). broken (o.byte ∷ k.0) ∷ ps) (sym r.ensures.pieces) in
    ap (λ t. Some (broken t, slice_of r.result)) (sym (piece_found (broken (o.byte ∷ k.0)) p.text.now r.result.text.now c.before-in-Open.result.now p.marks.now r.result.marks.now e c.before-in-Open.ensures)) ∙ ap uncons_piece (sym e)

pub returns-in-First-clause-pieces : goal.returns-in-First-clause-pieces
returns-in-First-clause-pieces c =
    let p = c.args.self in
    let o = c.in_ok-byte in
    let r = c.behind_kept-rest-in-First in
    let k = kept_and_pieces o.more.text.now o.more.marks.now in
    let e : slice_of p ≡ whole (o.byte ∷ k.0) ∷ slice_of r.result =
    first_kept o.byte o.mark p.text.now o.more.text.now p.marks.now o.more.marks.now o.ensures.pieces c.in-First.is ∙ ap (λ (ps : List Piece). whole (o.byte ∷ k.0) ∷ ps) (sym r.ensures.pieces) in
    ap (λ t. Some (whole t, slice_of r.result)) (sym (piece_found (whole (o.byte ∷ k.0)) p.text.now r.result.text.now c.before-in-First.result.now p.marks.now r.result.marks.now e c.before-in-First.ensures)) ∙ ap uncons_piece (sym e)

pub returns-in-Open-clause-behind : goal.returns-in-Open-clause-behind
returns-in-Open-clause-behind c = behind_more c.args.self c.in_ok-byte.more c.behind_kept-rest.result c.in_ok-byte.ensures.behind c.behind_kept-rest.ensures.behind

pub returns-in-First-clause-behind : goal.returns-in-First-clause-behind
returns-in-First-clause-behind c = behind_more c.args.self c.in_ok-byte.more c.behind_kept-rest-in-First.result c.in_ok-byte.ensures.behind c.behind_kept-rest-in-First.ensures.behind
