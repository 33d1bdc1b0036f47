use Rattle.std.proofs.Common.{◌≡◌, ℕ, IfOk, sym, subst}
use Rattle.card_reader.specs.Deck.{card_of}
use Rattle.order77.specs.ReadViews.{reading_at}
use Rattle.parse77.specs.Statement.{reading_by}
use Rattle.parse77.specs.Views.{read_made}
use Rattle.parse77.proofs.reader.read_as.Goals as goal

pub returns-in-None : goal.returns-in-None
returns-in-None c =
    subst (λ read. IfOk c.unspelled.result (λ made. (n : ℕ) → reading_at n made ≡ reading_by n (card_of c.args.card.now) (read_made read))) (sym c.in-None.is) c.unspelled.ensures

pub returns-in-Some : goal.returns-in-Some
returns-in-Some c =
    subst (λ read. IfOk c.spelled.result (λ made. (n : ℕ) → reading_at n made ≡ reading_by n (card_of c.args.card.now) (read_made read))) (sym c.in-Some.is) c.spelled.ensures
