use Rattle.std.proofs.Common.{◌∙◌, ap}
use Rattle.card_reader.specs.Deck.{with_continuation}
use Rattle.card_reader.proofs.Gathering.{continued}
use Rattle.card_reader.proofs.deck.Deck.take_continuation.Goals as goal

pub returns-in_ok-push : goal.returns-in_ok-push
returns-in_ok-push c =
    continued c.self.inside.statements c.pop.new.self c.push.new.self c.self.inside.tail c.new.result c.extend.new.self c.in-Some.card c.args.line.now c.statement_field.result c.extend-in-Some.new.self c.self.inside.cut
    c.in-Some.ensures c.in_ok-extend.ensures.ok c.statement_field.ensures c.in_ok-extend-2.ensures.ok c.in_ok-push.ensures.ok c.new.ensures
    ∙ ap (with_continuation c.args.line.now) c.self.view_is
