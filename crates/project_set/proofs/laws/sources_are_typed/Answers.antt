use Rattle.project_set.proofs.TypedLemmas.{sources_are_typed}
use Rattle.project_set.proofs.laws.sources_are_typed.Goals as goal

pub returns : goal.returns
returns c = sources_are_typed c.typed_units_have_one_meaning.ensures c.sources_are_read.ensures.unit_read
