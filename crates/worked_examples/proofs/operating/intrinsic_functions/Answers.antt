use Rattle.std.proofs.Common.{refl}
use Rattle.worked_examples.proofs.Opened.{opened}
use Rattle.worked_examples.proofs.operating.intrinsic_functions.Goals as goal

pub returns : goal.returns
unfolding opened
returns c = record { first = refl; inside = refl; last = refl; none = refl }
