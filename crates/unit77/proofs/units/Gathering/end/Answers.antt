use Rattle.std.proofs.Common.{refl, rules}
use Rattle.unit77.specs.UnitViews.{unit_of}
use Rattle.unit77.proofs.Building.{has_parts}
use Rattle.unit77.proofs.units.Gathering.end.Goals as goal

pub returns-clause-parts : goal.returns-clause-parts
returns-clause-parts c own g closed = has_parts own c.args.self (unit_of _) (search rules) refl refl refl refl g closed
