use Rattle.expr77.proofs.StopLaw.{wide_begins, wide_stops, wide_split}
use Rattle.expr77.proofs.laws.expressions_stop.Goals as goal

pub returns-clause-begin : goal.returns-clause-begin
returns-clause-begin c = wide_begins

pub returns-clause-stop : goal.returns-clause-stop
returns-clause-stop c = wide_stops

pub returns-clause-split : goal.returns-clause-split
returns-clause-split c = wide_split
