use Rattle.card_reader.proofs.CommentLaw.{by_lines}
use Rattle.card_reader.proofs.laws.comments_stand_between_statements.Goals as goal

pub returns : goal.returns
returns c = by_lines
