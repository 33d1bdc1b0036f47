use Rattle.definition_laws.proofs.CommentTexts.{all_of_source, all_of_written}
use Rattle.definition_laws.proofs.CommentOrder.{comments_ascend, positions_ascend}
use Rattle.definition_laws.proofs.comments.all_comments_have_positions.Goals as goal

pub returns-clause-source : goal.returns-clause-source
returns-clause-source c = all_of_source

pub returns-clause-written : goal.returns-clause-written
returns-clause-written c = all_of_written

pub returns-clause-order : goal.returns-clause-order
returns-clause-order c = comments_ascend

pub returns-clause-ascend : goal.returns-clause-ascend
returns-clause-ascend c = positions_ascend
