use Rattle.format77.proofs.TextLaw.{body_found, body_only}
use Rattle.format77.proofs.laws.bodies_are_read.Goals as goal

pub returns-clause-found : goal.returns-clause-found
returns-clause-found c = body_found

pub returns-clause-only : goal.returns-clause-only
returns-clause-only c = body_only
