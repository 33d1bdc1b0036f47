use Rattle.std.proofs.Common.{refl}
use Rattle.worked_examples.proofs.Opened.{opened}
use Rattle.worked_examples.proofs.operating.types_of_expressions.Goals as goal

pub returns : goal.returns
unfolding opened
returns c = refl
