use Rattle.expr77.proofs.ExpressionLaw.{one_wide, one_spelled, one_refused, apart}
use Rattle.expr77.proofs.laws.one_expression.Goals as goal

pub returns-clause-wide : goal.returns-clause-wide
returns-clause-wide c = one_wide c.one_cut.ensures.only c.grouped_expressions.ensures.only

pub returns-clause-spelled : goal.returns-clause-spelled
returns-clause-spelled c = one_spelled c.one_cut.ensures.only c.grouped_expressions.ensures.only

pub returns-clause-refused : goal.returns-clause-refused
returns-clause-refused c = one_refused c.one_cut.ensures.only c.grouped_expressions.ensures.only

pub returns-clause-apart : goal.returns-clause-apart
returns-clause-apart c = apart c.one_cut.ensures.only c.grouped_expressions.ensures.only
