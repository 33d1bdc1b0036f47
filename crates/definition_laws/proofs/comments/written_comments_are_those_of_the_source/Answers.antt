use Rattle.std.proofs.Common.{sym, ap, ◌∙◌}
use Rattle.text_base.specs.Cards.{comments}
use Rattle.project_set.specs.Positions.{written_positions}
use Rattle.project_set.specs.Rewrite.{written}
use Rattle.definition_laws.specs.CommentPlaces.{placed_remarks}
use Rattle.definition_laws.proofs.comments.written_comments_are_those_of_the_source.Goals as goal

-- the one program that the written text is read as is the written one
pub returns-clause-positions : goal.returns-clause-positions
returns-clause-positions c bytes p is =
    let same = c.conversions_do_the_same.ensures bytes p is in
    let proper = c.written_is_proper.ensures bytes p is in
    let read = c.printed_is_read.ensures (written (comments bytes) p) proper.writable in
    same.comments ∙ ap written_positions (sym (same.one_reading.only (written (comments bytes) p) read))

pub returns-clause-comments : goal.returns-clause-comments
returns-clause-comments c bytes p is =
    sym (c.all_comments_have_positions.ensures.written (written (comments bytes) p)) ∙ ap placed_remarks (sym (returns-clause-positions c bytes p is)) ∙ c.all_comments_have_positions.ensures.source bytes p
