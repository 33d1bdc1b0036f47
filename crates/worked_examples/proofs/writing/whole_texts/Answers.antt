use Rattle.std.proofs.Common.{refl}
use Rattle.worked_examples.proofs.Opened.{opened}
use Rattle.worked_examples.proofs.writing.whole_texts.Goals as goal

pub returns : goal.returns
unfolding opened
returns c = record { text = refl; product = refl; map = refl; read_only = refl; report = refl }
