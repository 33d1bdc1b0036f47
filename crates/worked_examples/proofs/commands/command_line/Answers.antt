use Rattle.std.proofs.Common.{refl}
use Rattle.worked_examples.proofs.Opened.{opened}
use Rattle.worked_examples.proofs.commands.command_line.Goals as goal

pub returns-clause-refusals : goal.returns-clause-refusals
unfolding opened
returns-clause-refusals c = refl
