use Rattle.std.proofs.Common.{refl}
use Rattle.parse77.specs.Reading.{accepted, rejected, outcome_of}
use Rattle.worked_examples.specs.Statements.{Written, statements, refused_statements, Spells, IsRefusedWith}
use Rattle.worked_examples.proofs.Opened.{opened}
use Rattle.worked_examples.proofs.Rows.{each_row}
use Rattle.worked_examples.proofs.spelling.spelled_statements.Goals as goal

pub returns : goal.returns
unfolding opened
returns c = record {
  some = each_row Spells (λ (w : Written). outcome_of w.0 w.1) accepted (λ w x. c.statements_are_spelled.ensures.spelled w.0 w.1 x) statements refl;
  refused = each_row IsRefusedWith (λ (w : Written). outcome_of w.0 w.1) rejected (λ w p. c.statements_are_spelled.ensures.refused w.0 w.1 p) refused_statements refl;
}
