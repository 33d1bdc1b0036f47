use Rattle.unit77.proofs.Law as law
use Rattle.unit77.proofs.laws.nests_or_not.Goals as goal

pub returns : goal.returns
returns c = law.nests_or_not
