use Rattle.std.proofs.Common.{◌∙◌}
use Rattle.project_set.proofs.DeckLemmas.{placed_deck}
use Rattle.project_set.proofs.comments.Comments.of.Goals as goal

pub returns-in_ok-copy-in-len2-up-3 : goal.returns-in_ok-copy-in-len2-up-3
returns-in_ok-copy-in-len2-up-3 c =
    placed_deck c.args.deck.now c.statements.result.now c.header-item.result c.first-item.result _ c.statements.ensures c.header-item.is c.first-item.is
    c.in_ok-copy-in-len2-up.ensures c.in_ok-copy-in-len2-up-2.ensures c.in_ok-later-in-len2-up.ensures (c.in_ok-copy-in-len2-up-3.ensures ∙ c.tail.ensures)
