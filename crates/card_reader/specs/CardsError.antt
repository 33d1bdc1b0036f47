-- What an error says of the file.
use Rattle.std.specs.Prelude.{ℕ, ◌≡◌, ◌≢◌, List, []}
use Rattle.text_base.specs.LineRefusals.{card_refusals}
use Rattle.card_reader.specs.declared.cards_error.CardsError.{CardsError}
use Rattle.card_reader.specs.declared.cards_error.CardsError.TheVariants.{Refused, Memory}

-- A refused file has something to refuse in its size or in its lines, and the list is all of it. Want of memory says
-- nothing.
abbrev pub Refuses : ℕ → List ℕ → CardsError → Type 0
Refuses file bytes (Refused refusals) = (refusals ≡ card_refusals file bytes) × (card_refusals file bytes ≢ [])
Refuses file bytes Memory = Unit {0}
