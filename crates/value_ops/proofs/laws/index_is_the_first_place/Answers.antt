use Rattle.value_ops.proofs.Places.{place, first, nowhere_zero}
use Rattle.value_ops.proofs.laws.index_is_the_first_place.Goals as goal

pub returns-clause-place : goal.returns-clause-place
returns-clause-place c = place

pub returns-clause-first : goal.returns-clause-first
returns-clause-first c = first

pub returns-clause-nowhere : goal.returns-clause-nowhere
returns-clause-nowhere c = nowhere_zero
