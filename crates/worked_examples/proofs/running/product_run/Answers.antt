use Rattle.std.proofs.Common.{refl}
use Rattle.worked_examples.proofs.Opened.{opened}
use Rattle.worked_examples.proofs.running.product_run.Goals as goal

pub returns : goal.returns
unfolding opened
returns c = record { at_1 = refl; at_2 = refl; at_3 = refl }
