use Rattle.std.proofs.Common.{◌≡◌, ℕ, IfOk, ap, ◌∙◌, subst, rules}
use Rattle.card_reader.specs.Deck.{card_of}
use Rattle.scan77.specs.PieceReading.{pieces_of}
use Rattle.scan77.specs.PieceSlice.{slice_of}
use Rattle.order77.specs.ReadViews.{reading_at}
use Rattle.parse77.specs.Reading.{read_statement}
use Rattle.parse77.specs.Statement.{reading_by}
use Rattle.parse77.proofs.reader.read_card.Goals as goal

pub returns : goal.returns
returns c =
    let card = card_of c.args.card.now in
    let pieces : slice_of c.all-all.result ≡ pieces_of card.label card.text = search rules in
    subst (λ read. IfOk c.read_as.result (λ made. (n : ℕ) → reading_at n made ≡ reading_by n card read)) (c.in_ok-read.ensures ∙ ap (read_statement card.label) pieces) c.read_as.ensures
