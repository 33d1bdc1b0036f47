use Rattle.value_ops.proofs.Blanks.{dont_count, equal}
use Rattle.value_ops.proofs.laws.blanks_at_the_end_dont_count.Goals as goal

pub returns-clause-same : goal.returns-clause-same
returns-clause-same c = dont_count

pub returns-clause-equal : goal.returns-clause-equal
returns-clause-equal c = equal
