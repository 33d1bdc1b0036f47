use Rattle.unit77.proofs.LackingLemmas as law
use Rattle.unit77.proofs.laws.own_lists.Goals as goal

pub returns : goal.returns
returns c = law.own_lists
