use Rattle.std.proofs.Common.{refl}
use Rattle.format77.specs.Reading.{lexeme_at, wide_of}
use Rattle.format77.specs.Rows.{rows}
use Rattle.format77.proofs.FormatLaw.{each_row}
use Rattle.format77.proofs.laws.worked_formats.Goals as goal

pub returns-clause-spelled : goal.returns-clause-spelled
unfolding lexeme_at wide_of
returns-clause-spelled c = each_row 0 rows refl

pub returns-clause-read : goal.returns-clause-read
unfolding lexeme_at wide_of
returns-clause-read c = refl

pub returns-clause-nested : goal.returns-clause-nested
unfolding lexeme_at wide_of
returns-clause-nested c = refl

pub returns-clause-too_deep : goal.returns-clause-too_deep
unfolding lexeme_at wide_of
returns-clause-too_deep c = refl
