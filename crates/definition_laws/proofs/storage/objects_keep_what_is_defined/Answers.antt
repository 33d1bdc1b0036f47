use Rattle.definition_laws.proofs.ObjectLemmas.{object_read, object_kept}
use Rattle.definition_laws.proofs.storage.objects_keep_what_is_defined.Goals as goal

pub returns-clause-defined : goal.returns-clause-defined
returns-clause-defined c = object_read

pub returns-clause-others : goal.returns-clause-others
returns-clause-others c = object_kept
