-- What is read of a card: its pieces are those that its characters are cut into.
use Rattle.std.proofs.Common.{◌≡◌, ℕ, List, sym, ap, ◌∙◌}
use Rattle.text_base.specs.Cards.{Card}
use Rattle.text_base.specs.Kept.{is_format}
use Rattle.text_base.specs.Pieces.{Piece, IsPieces}
use Rattle.tree77.specs.CardSpelling.{SpellsCard, IsRefusedCard}
use Rattle.tree77.specs.Lexemes.{Part}
use Rattle.tree77.specs.Statements.{Statement}
use Rattle.scan77.specs.PieceReading.{pieces_of}
use Rattle.parse77.specs.Reading.{accepted, rejected, outcome_of, card_outcome}
use Rattle.parse77.proofs.StatementOutcomes.{Reads, spelled, read, refused, found_refused}

-- a text has one list of pieces
pub record CardLaws : Type 0 where
  pub pieces_found : (label : ℕ) (text : List ℕ) → IsPieces (is_format label text) text (pieces_of label text)
  pub pieces_only : (label : ℕ) (text : List ℕ) (pieces : List Piece) → IsPieces (is_format label text) text pieces → pieces ≡ pieces_of label text

module _ (reads : Reads) (d : CardLaws) (card : Card) where
  pub card_spelled : (x : Statement) → card_outcome card ≡ accepted x → SpellsCard card x
  card_spelled x e = record {
    pieces = pieces_of card.label card.text;
    cut = d.pieces_found card.label card.text;
    spelled = spelled reads card.label (pieces_of card.label card.text) x e;
  }

  pub card_accepted : (x : Statement) → SpellsCard card x → card_outcome card ≡ accepted x
  card_accepted x s = ap (outcome_of card.label) (sym (d.pieces_only card.label card.text s.pieces s.cut)) ∙ read reads card.label s.pieces x s.spelled

  pub card_refused : (p : Part) → card_outcome card ≡ rejected p → IsRefusedCard card p
  card_refused p e = record {
    pieces = pieces_of card.label card.text;
    cut = d.pieces_found card.label card.text;
    refused = refused reads card.label (pieces_of card.label card.text) p e;
  }

  pub card_rejected : (p : Part) → IsRefusedCard card p → card_outcome card ≡ rejected p
  card_rejected p r = ap (outcome_of card.label) (sym (d.pieces_only card.label card.text r.pieces r.cut)) ∙ found_refused reads card.label r.pieces p r.refused
