use Rattle.expr77.proofs.ExpressionLaw.{wide_cut}
use Rattle.expr77.proofs.laws.expressions_are_cut.Goals as goal

pub returns : goal.returns
returns c = wide_cut
