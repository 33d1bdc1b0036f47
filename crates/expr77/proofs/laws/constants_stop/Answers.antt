use Rattle.expr77.proofs.ConstantStops.{constant_alone, alone_keeps, alone_stops}
use Rattle.expr77.proofs.laws.constants_stop.Goals as goal

pub returns-clause-alone : goal.returns-clause-alone
returns-clause-alone c = constant_alone

pub returns-clause-stay : goal.returns-clause-stay
returns-clause-stay c = alone_keeps

pub returns-clause-stop : goal.returns-clause-stop
returns-clause-stop c = alone_stops
