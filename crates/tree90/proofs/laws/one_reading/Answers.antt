use Rattle.tree90.proofs.FreeReading.{program_unique}
use Rattle.tree90.proofs.laws.one_reading.Goals as goal

pub returns : goal.returns
returns c = program_unique c.one_tree.ensures
