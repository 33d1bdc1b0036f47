use Rattle.definition_laws.proofs.EntryCounts.{tells, apart, ascend}
use Rattle.definition_laws.proofs.ExactPositions.{told, tell}
use Rattle.definition_laws.proofs.comments.positions_tell_entries.Goals as goal

pub returns-clause-entries : goal.returns-clause-entries
returns-clause-entries c = tells

pub returns-clause-apart : goal.returns-clause-apart
returns-clause-apart c = apart

pub returns-clause-ascend : goal.returns-clause-ascend
returns-clause-ascend c = ascend

pub returns-clause-exact : goal.returns-clause-exact
returns-clause-exact c us j k = (told us j k, tell us j k)
