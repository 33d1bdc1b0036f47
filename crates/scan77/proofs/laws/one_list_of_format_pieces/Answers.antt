use Rattle.scan77.proofs.PieceLaw.{format_found, format_only}
use Rattle.scan77.proofs.laws.one_list_of_format_pieces.Goals as goal

pub returns-clause-found : goal.returns-clause-found
returns-clause-found c = format_found

pub returns-clause-only : goal.returns-clause-only
returns-clause-only c = format_only
