use Rattle.std.proofs.Common.{refl}
use Rattle.worked_examples.proofs.Opened.{opened}
use Rattle.worked_examples.proofs.refusing.large_files.Goals as goal

pub returns : goal.returns
unfolding opened
returns c = record { file = λ bytes e. rw e refl; project = λ bytes e. rw e refl }
