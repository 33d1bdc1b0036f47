use Rattle.forms77.proofs.Stays.{expression_stays}
use Rattle.forms77.proofs.laws.expressions_stay.Goals as goal

pub returns : goal.returns
returns c = expression_stays c.expressions_stop.ensures.stop
