use Rattle.definition_laws.proofs.StorageLemmas.{one_entity, is_variable, apart, within, all_places}
use Rattle.definition_laws.proofs.storage.each_variable_has_a_place.Goals as goal

pub returns-clause-entity : goal.returns-clause-entity
returns-clause-entity c = one_entity

pub returns-clause-variable : goal.returns-clause-variable
returns-clause-variable c = is_variable

pub returns-clause-apart : goal.returns-clause-apart
returns-clause-apart c = apart

pub returns-clause-within : goal.returns-clause-within
returns-clause-within c = within

pub returns-clause-all : goal.returns-clause-all
returns-clause-all c = all_places
