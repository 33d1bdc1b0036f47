-- Statements that were read, as the definitions have them.
use Rattle.std.specs.Prelude.{◌≡◌, ◌≢◌, ℕ, suc, List, [], ◌∷◌, Option, Some, None, Result, Ok, Err}
use Rattle.std.specs.Option.{option_map}
use Rattle.text_base.specs.Cards.{Card}
use Rattle.text_base.specs.declared.refusal.Place.{Place}
use Rattle.text_base.specs.declared.refusal.Refusal.{Refusal}
use Rattle.tree77.specs.Lexemes.{Part}
use Rattle.scan77.specs.PieceReading.{pieces_of}
use Rattle.order77.specs.Counts.{Reading}
use Rattle.unit77.specs.FileRefusals.{file_refusals}
use Rattle.order77.specs.Settling.{settled}
use Rattle.parse77.specs.declared.deck.ParseError.{ParseError}
use Rattle.parse77.specs.declared.deck.ParseError.TheVariants.{Refused, Memory}
use Rattle.parse77.specs.Reading.{Read, Outcome, accepted, rejected, read_statement, outcome_from}

-- the refusal of a part, at a place
abbrev pub refusal_at : Place → Part → Refusal
refusal_at place p = record { place = place; cause = p.cause; name = p.shown }

-- the refusal of a statement at a place, if it has one
abbrev pub refusal_by : Place → Outcome → Option Refusal
refusal_by place (accepted x) = None
refusal_by place (rejected p) = Some (refusal_at place p)

-- a card with this number as it is read: the statement, where a part of it is refused the one that stands for it, and its refusal
abbrev pub reading_by : ℕ → Card → Read → Reading
reading_by n card read = record {
  number = n;
  label = card.label;
  place = card.place;
  statement = option_map (λ r. r.0) read;
  refusal = refusal_by card.place (outcome_from (pieces_of card.label card.text) read);
}

abbrev pub card_reading : ℕ → Card → Reading
card_reading n card = reading_by n card (read_statement card.label (pieces_of card.label card.text))

-- cards, numbered from one number on
abbrev pub card_readings : ℕ → List Card → List Reading
card_readings n [] = []
card_readings n (card ∷ cards) = card_reading n card ∷ card_readings (suc n) cards

-- the statements of a file, in which statement functions are told from assignments
abbrev pub file_readings : List Card → List Reading
file_readings cards = settled (card_readings 0 cards)

-- what is refused of the statements of a file: one refusal a statement
abbrev pub deck_refusals : List Card → List Refusal
deck_refusals cards = file_refusals (file_readings cards)

-- a refusal has all that is refused of the statements, and there is something
abbrev pub RefusesWith : {T : Type 0} → List Card → Result T ParseError → Type 0
RefusesWith cards (Ok value) = Unit {0}
RefusesWith cards (Err (Refused list)) = (list ≡ deck_refusals cards) × (deck_refusals cards ≢ [])
RefusesWith cards (Err Memory) = Unit {0}
