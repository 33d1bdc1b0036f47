use Rattle.format77.proofs.FormatLaw.{accepted_found, refused_found, none_found}
use Rattle.format77.proofs.laws.spelled_formats_are_read.Goals as goal

pub returns-clause-accepted : goal.returns-clause-accepted
returns-clause-accepted c = accepted_found

pub returns-clause-refused : goal.returns-clause-refused
returns-clause-refused c = refused_found

pub returns-clause-none : goal.returns-clause-none
returns-clause-none c = none_found
