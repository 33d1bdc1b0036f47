use Rattle.project_set.proofs.ProperLemmas.{written_is_proper}
use Rattle.project_set.proofs.laws.written_is_proper.Goals as goal

pub returns : goal.returns
returns c = written_is_proper c.sources_are_typed.ensures c.sources_are_read.ensures.built_found c.sources_are_read.ensures.unit_read
