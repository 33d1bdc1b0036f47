use Rattle.std.proofs.Common.{refl}
use Rattle.worked_examples.proofs.Opened.{opened}
use Rattle.worked_examples.proofs.writing.printed_parts.Goals as goal

pub returns : goal.returns
unfolding opened
returns c = record { expressions = refl; map_lines = refl }
