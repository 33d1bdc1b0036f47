use Rattle.std.proofs.Common.{Some, refl}
use Rattle.tree77.specs.Lexemes.{SpellsExpression, IsRefusedExpression}
use Rattle.expr77.specs.Outcome.{accepted, refused}
use Rattle.worked_examples.specs.Expressions.{expressions, refused_expressions}
use Rattle.worked_examples.proofs.Opened.{opened}
use Rattle.worked_examples.proofs.Outcomes.{outcome_in, by_outcome}
use Rattle.worked_examples.proofs.Rows.{each_row}
use Rattle.worked_examples.proofs.spelling.spelled_expressions.Goals as goal

pub returns : goal.returns
unfolding opened
returns c =
    let found = c.one_cut.ensures.found in
    let laws = c.outcomes_are_spelled.ensures in
    record {
      some = each_row SpellsExpression outcome_in (λ x. Some (accepted x)) (λ pieces x. by_outcome (SpellsExpression pieces x) pieces (accepted x) (found pieces) (λ tokens. laws.accepted pieces tokens x)) expressions refl;
      refused = each_row IsRefusedExpression outcome_in (λ p. Some (refused p)) (λ pieces p. by_outcome (IsRefusedExpression pieces p) pieces (refused p) (found pieces) (λ tokens. laws.refused pieces tokens p)) refused_expressions refl;
    }
