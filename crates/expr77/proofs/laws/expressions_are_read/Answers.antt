use Rattle.expr77.proofs.ExpressionLaw.{read_spelled, spelled_read}
use Rattle.expr77.proofs.laws.expressions_are_read.Goals as goal

pub returns-clause-found : goal.returns-clause-found
returns-clause-found c = read_spelled c.one_cut.ensures.pieces c.one_cut.ensures.formed c.grouped_expressions.ensures.found

pub returns-clause-only : goal.returns-clause-only
returns-clause-only c = spelled_read c.one_cut.ensures.only c.grouped_expressions.ensures.only
