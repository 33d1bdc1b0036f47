use Rattle.definition_laws.proofs.StorageLemmas.{map_pairs, count_lines}
use Rattle.definition_laws.proofs.storage.each_variable_has_a_line.Goals as goal

pub returns-clause-lines : goal.returns-clause-lines
returns-clause-lines c = map_pairs

pub returns-clause-count : goal.returns-clause-count
returns-clause-count c = count_lines
