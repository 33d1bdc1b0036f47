use Rattle.scan77.proofs.laws.one_format.Goals as goal
use Rattle.scan77.proofs.FormatLaw.{format_by_outline, format_by_characters}

pub returns-clause-found : goal.returns-clause-found
returns-clause-found c = format_by_outline

pub returns-clause-only : goal.returns-clause-only
returns-clause-only c = format_by_characters
