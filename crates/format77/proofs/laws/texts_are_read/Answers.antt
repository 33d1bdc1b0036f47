use Rattle.format77.proofs.TextLaw.{text_found, text_only}
use Rattle.format77.proofs.laws.texts_are_read.Goals as goal

pub returns-clause-found : goal.returns-clause-found
returns-clause-found c = text_found c.one_list_of_format_pieces.ensures.found

pub returns-clause-only : goal.returns-clause-only
returns-clause-only c = text_only c.one_list_of_format_pieces.ensures.only
