use Rattle.names77.proofs.TextLemmas as law
use Rattle.names77.proofs.laws.text_is_kept.Goals as goal

pub returns : goal.returns
returns c = law.text_is_kept
