use Rattle.std.proofs.Common.{refl}
use Rattle.worked_examples.proofs.Opened.{opened}
use Rattle.worked_examples.proofs.refusing.continuation_lines.Goals as goal

pub returns : goal.returns
unfolding opened
returns c = record { last = refl; one_more = refl; anew = refl }
