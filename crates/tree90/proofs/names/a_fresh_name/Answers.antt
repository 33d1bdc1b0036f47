use Rattle.tree90.proofs.MadeNameLemmas.{fresh_is_there}
use Rattle.tree90.proofs.names.a_fresh_name.Goals as goal

pub returns : goal.returns
returns c = fresh_is_there
