use Rattle.unit77.proofs.Program as law
use Rattle.unit77.proofs.laws.program_or_not.Goals as goal

pub returns : goal.returns
returns c = law.program_or_not
