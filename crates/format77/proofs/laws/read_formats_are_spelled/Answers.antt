use Rattle.format77.proofs.FormatLaw.{accepted_is, refused_is, none_is}
use Rattle.format77.proofs.laws.read_formats_are_spelled.Goals as goal

pub returns-clause-accepted : goal.returns-clause-accepted
returns-clause-accepted c = accepted_is

pub returns-clause-refused : goal.returns-clause-refused
returns-clause-refused c = refused_is

pub returns-clause-none : goal.returns-clause-none
returns-clause-none c = none_is
