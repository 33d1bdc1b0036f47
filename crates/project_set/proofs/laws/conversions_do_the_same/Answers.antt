use Rattle.project_set.proofs.HeadingLemmas.{conversions_do_the_same}
use Rattle.project_set.proofs.laws.conversions_do_the_same.Goals as goal

pub returns : goal.returns
returns c = conversions_do_the_same c.sources_are_typed.ensures c.written_is_proper.ensures c.one_reading.ensures c.printed_is_read.ensures
