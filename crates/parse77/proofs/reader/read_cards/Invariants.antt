use Rattle.std.proofs.Common.{◌≡◌, map, take}
use Rattle.card_reader.specs.Deck.{card_of}
use Rattle.order77.specs.ReadViews.{readings_of}
use Rattle.parse77.specs.Statement.{card_readings}
use Rattle.parse77.proofs.reader.read_cards.Given as goal

-- the statements so far are those of the cards so far
abbrev pub invariant-loop-card : goal.invariant-loop-card
invariant-loop-card l = readings_of l.made.items ≡ card_readings 0 (map card_of (take l.card-index l.cards))
