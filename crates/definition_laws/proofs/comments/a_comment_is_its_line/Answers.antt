use Rattle.definition_laws.proofs.CommentTexts.{comments_plain, comments_fit}
use Rattle.definition_laws.proofs.comments.a_comment_is_its_line.Goals as goal

pub returns-clause-plain : goal.returns-clause-plain
returns-clause-plain c = comments_plain

pub returns-clause-writable : goal.returns-clause-writable
returns-clause-writable c = comments_fit
