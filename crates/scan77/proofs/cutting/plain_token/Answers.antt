use Rattle.std.proofs.Common.{◌∙◌, sym}
use Rattle.scan77.specs.PieceSlice.{slice_of}
use Rattle.scan77.proofs.CutSteps.{run_is_first, digits_are_first, mark_is_first}
use Rattle.scan77.proofs.cutting.plain_token.Goals as goal

pub returns-then-is_upper-clause-some : goal.returns-then-is_upper-clause-some
returns-then-is_upper-clause-some c =
    run_is_first c.args.byte (slice_of c.args.more) (slice_of c.behind_run.result) (sym c.is_upper.ensures ∙ c.if-is_upper.true) c.behind_run.ensures.pieces

pub returns-then-is_digit-clause-some : goal.returns-then-is_digit-clause-some
returns-then-is_digit-clause-some c =
    digits_are_first c.args.byte (slice_of c.args.more) (slice_of c.behind_digits.result) (sym c.is_digit.ensures ∙ c.if-is_digit.true) c.behind_digits.ensures.pieces

pub returns-then-is_mark-clause-some : goal.returns-then-is_mark-clause-some
returns-then-is_mark-clause-some c = mark_is_first c.args.byte (slice_of c.args.more) (sym c.is_mark.ensures ∙ c.if-is_mark.true)
