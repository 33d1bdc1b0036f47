use Rattle.expr77.proofs.ExpressionLaw.{outcome_accepted, outcome_refused}
use Rattle.expr77.proofs.laws.outcomes_are_spelled.Goals as goal

pub returns-clause-accepted : goal.returns-clause-accepted
returns-clause-accepted c = outcome_accepted c.one_cut.ensures.pieces c.one_cut.ensures.formed c.grouped_expressions.ensures.found

pub returns-clause-refused : goal.returns-clause-refused
returns-clause-refused c = outcome_refused c.one_cut.ensures.pieces c.one_cut.ensures.formed c.one_cut.ensures.only c.one_cut.ensures.joined c.grouped_expressions.ensures.found c.grouped_expressions.ensures.only
