use Rattle.expr77.proofs.QuotedConstants.{quoted_text_found, quoted_text_only}
use Rattle.expr77.proofs.laws.constants_are_quoted.Goals as goal

pub returns-clause-found : goal.returns-clause-found
returns-clause-found c = quoted_text_found

pub returns-clause-only : goal.returns-clause-only
returns-clause-only c = quoted_text_only
