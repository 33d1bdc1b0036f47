use Rattle.group77.proofs.BuildLaw.{one}
use Rattle.group77.proofs.laws.one_tree.Goals as goal

pub returns : goal.returns
returns c = one
