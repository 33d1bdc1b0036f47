use Rattle.std.proofs.Common.{refl}
use Rattle.card_reader.specs.Deck.{card_of}
use Rattle.text_base.specs.Cards.{cards}
use Rattle.project_set.proofs.CardCount.{counted_cards}
use Rattle.project_set.proofs.conversion.read_deck_statements.Goals as goal

pub read_accepted-requires : goal.read_accepted-requires
read_accepted-requires c = record {
  room = counted_cards card_of c.args.deck.now.statements c.args.bytes.now (cards 0 c.args.bytes.now) c.requires.cards refl c.requires.accepted;
}
