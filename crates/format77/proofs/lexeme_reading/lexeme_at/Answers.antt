use Rattle.std.proofs.Common.{◌≡◌, ◌∙◌, IfOk, subst, ap}
use Rattle.scan77.specs.PieceSlice.{slice_of, uncons_piece}
use Rattle.format77.specs.Parts.{read_of}
use Rattle.format77.proofs.LexemesSteps.{whole_at}
use Rattle.format77.proofs.lexeme_reading.lexeme_at.Goals as goal

pub returns-in-Some-Whole-default : goal.returns-in-Some-Whole-default
returns-in-Some-Whole-default c =
    let o = c.in-Some-Whole-default in
    let pieces = rw o.field-0-0-is at o.ensures.pieces in
    let e = whole_at (slice_of c.args.pieces) (slice_of o.rest) o.text.now c.split_digits.result.0.is_written (pieces ∙ ap uncons_piece c.split_digits.ensures.rest) c.split_digits.ensures.written in
    subst (λ x. IfOk c.quoted.result (λ r. read_of r ≡ x)) e c.quoted.ensures
