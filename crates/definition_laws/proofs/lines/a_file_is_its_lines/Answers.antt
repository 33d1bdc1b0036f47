use Rattle.definition_laws.proofs.ColumnLemmas.{joined_cut, cut_is_plain, cut_joined}
use Rattle.definition_laws.proofs.lines.a_file_is_its_lines.Goals as goal

pub returns-clause-joined : goal.returns-clause-joined
returns-clause-joined c = joined_cut

pub returns-clause-plain : goal.returns-clause-plain
returns-clause-plain c = cut_is_plain

pub returns-clause-only : goal.returns-clause-only
returns-clause-only c = cut_joined
