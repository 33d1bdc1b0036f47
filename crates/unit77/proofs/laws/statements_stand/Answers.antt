use Rattle.unit77.proofs.InOrder as law
use Rattle.unit77.proofs.laws.statements_stand.Goals as goal

pub returns : goal.returns
returns c = law.statements_stand
