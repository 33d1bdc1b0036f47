use Rattle.unit77.proofs.OneProgram as law
use Rattle.unit77.proofs.laws.one_program.Goals as goal

pub returns : goal.returns
returns c = law.one_program
