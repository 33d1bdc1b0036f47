use Rattle.group77.proofs.BuildSound.{built_is}
use Rattle.group77.proofs.BuildComplete.{expression_built}
use Rattle.group77.proofs.laws.grouped_expressions.Goals as goal

pub returns-clause-found : goal.returns-clause-found
returns-clause-found c = built_is

pub returns-clause-only : goal.returns-clause-only
returns-clause-only c = expression_built
