use Rattle.tree90.proofs.PrintedLemmas.{printed_is_read}
use Rattle.tree90.proofs.laws.printed_is_read.Goals as goal

pub returns : goal.returns
returns c = printed_is_read
