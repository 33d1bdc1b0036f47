use Rattle.definition_laws.proofs.StorageLemmas.{defined, not_read, others, length_kept, start_undefined, nothing}
use Rattle.definition_laws.proofs.storage.a_store_keeps_what_is_defined.Goals as goal

pub returns-clause-defined : goal.returns-clause-defined
returns-clause-defined c = defined

pub returns-clause-other_types : goal.returns-clause-other_types
returns-clause-other_types c = not_read

pub returns-clause-others : goal.returns-clause-others
returns-clause-others c = others

pub returns-clause-length : goal.returns-clause-length
returns-clause-length c = length_kept

pub returns-clause-start : goal.returns-clause-start
returns-clause-start c = start_undefined

pub returns-clause-nothing : goal.returns-clause-nothing
returns-clause-nothing c = nothing
