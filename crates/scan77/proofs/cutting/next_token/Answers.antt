use Rattle.std.proofs.Common.{◌∙◌, ◌++◌, ap, subst}
use Rattle.tree77.specs.Tokens.{pieces_by, MayPrecede}
use Rattle.scan77.specs.PieceSlice.{slice_of}
use Rattle.scan77.specs.Token.{token_kind_of}
use Rattle.scan77.proofs.CutSteps.{text_in_front, token_text}
use Rattle.scan77.proofs.cutting.next_token.Goals as goal

pub before-text-requires : goal.before-text-requires
before-text-requires c =
    let p = c.args.pieces in
    let o = c.in_ok-kind in
    let first = o.ensures.some in
    (first.text, text_in_front (token_kind_of o.kind) first.text p.text.now o.rest.text.now p.marks.now o.rest.marks.now first.front)

pub returns-clause-some : goal.returns-clause-some
returns-clause-some c =
    let p = c.args.pieces in
    let o = c.in_ok-kind in
    let kind = token_kind_of o.kind in
    let first = o.ensures.some in
    let same = token_text kind p.text.now o.rest.text.now c.before-text.result.now p.marks.now o.rest.marks.now first c.before-text.ensures in
    (first.front ∙ ap (λ t. pieces_by kind t ++ slice_of o.rest) same, subst (λ t. MayPrecede (record { kind = kind; text = t }) (slice_of o.rest)) same first.stands)
