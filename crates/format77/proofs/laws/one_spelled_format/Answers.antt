use Rattle.format77.proofs.FormatLaw.{one_spelled, one_refused, spelled_apart}
use Rattle.format77.proofs.laws.one_spelled_format.Goals as goal

pub returns-clause-spelled : goal.returns-clause-spelled
returns-clause-spelled c = one_spelled

pub returns-clause-refused : goal.returns-clause-refused
returns-clause-refused c = one_refused

pub returns-clause-apart : goal.returns-clause-apart
returns-clause-apart c = spelled_apart
