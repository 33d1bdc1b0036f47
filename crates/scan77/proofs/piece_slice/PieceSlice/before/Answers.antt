use Rattle.std.proofs.Common.{◌∙◌, ap, sym, true, false, Some}
use Rattle.std.proofs.lemmas.Bool.{ne_eqb, eq-eqb}
use Rattle.scan77.specs.PieceList.{pieces_in}
use Rattle.scan77.proofs.PieceEnds.{last_kept, last_tested}
use Rattle.scan77.proofs.piece_slice.PieceSlice.before.Goals as goal

pub returns-then-not-is_plain_at : goal.returns-then-not-is_plain_at
returns-then-not-is_plain_at c =
    let o = c.in_ok-last in
    last_kept c.args.byte c.args.self.text.now o.text.now c.args.self.marks.now o.last.now o.ensures.cases.0 (sym c.is_plain_at.ensures ∙ c.if-not-is_plain_at.true)

pub returns-then-last-byte : goal.returns-then-last-byte
returns-then-last-byte c =
    let o = c.in_ok-last in
    last_tested c.args.byte c.args.self.text.now o.text.now c.args.self.marks.now o.last.now false o.ensures.cases.0 (sym c.is_plain_at.ensures ∙ c.if-not-is_plain_at.false) (ne_eqb o.last.now c.args.byte c.if-last-byte.true)

pub returns : goal.returns
returns c =
    let o = c.in_ok-last in
    ap (λ t. Some (pieces_in t c.of.result.marks.now)) c.of.ensures.text ∙ ap (λ ms. Some (pieces_in o.text.now ms)) c.of.ensures.marks
    ∙ last_tested c.args.byte c.args.self.text.now o.text.now c.args.self.marks.now o.last.now true o.ensures.cases.0 (sym c.is_plain_at.ensures ∙ c.if-not-is_plain_at.false) (eq-eqb o.last.now c.args.byte c.if-last-byte.false)
