use Rattle.scan77.proofs.laws.one_kind.Goals as goal
use Rattle.scan77.proofs.KindLaw.{kind_found, kind_only}

pub returns-clause-found : goal.returns-clause-found
returns-clause-found c = kind_found

pub returns-clause-only : goal.returns-clause-only
returns-clause-only c = kind_only
