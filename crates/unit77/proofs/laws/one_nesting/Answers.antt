use Rattle.unit77.proofs.Law as law
use Rattle.unit77.proofs.laws.one_nesting.Goals as goal

pub returns : goal.returns
returns c = law.one
