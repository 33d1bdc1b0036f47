-- The reading of a file by any cut of its cards into pieces: by that of the definitions, and by one that the checker computes fast.
use Rattle.std.proofs.Common.{◌≡◌, ℕ, suc, not, List, [], ◌∷◌, map, filter, Option, option_map, ap, ◌∙◌, refl}
use Rattle.text_base.specs.Cards.{Card, cards}
use Rattle.text_base.specs.LineRefusals.{card_refusals, files_refusals}
use Rattle.text_base.specs.Pieces.{Piece}
use Rattle.text_base.specs.declared.refusal.Refusal.{Refusal}
use Rattle.order77.specs.Counts.{Reading}
use Rattle.unit77.specs.FileRefusals.{file_refusals}
use Rattle.order77.specs.Settling.{settled}
use Rattle.parse77.specs.Reading.{Outcome, Read, read_statement, outcome_from, outcome_of}
use Rattle.parse77.specs.Statement.{refusal_by, card_readings, deck_refusals}
use Rattle.scan77.specs.PieceReading.{pieces_of}
use Rattle.program77.specs.SourceReading.{ReadCard, built_at, type_refusals, read_unit, unless_refused, read_source}
use Rattle.program77.specs.Tree.{SourceUnit, SourceProgram}
use Rattle.project_set.specs.Refusals.{is_built_as, not_built_at, first_of, program_refusals, refusals}
use Rattle.worked_examples.proofs.LazyPieces.{lazy_pieces, lazily_cut}

module _ (cut : ℕ → List ℕ → List Piece) where
  abbrev pub outcome : Card → Outcome
  outcome card = outcome_of card.label (cut card.label card.text)

  -- ---- statements and their units

  abbrev pub reading_by : ℕ → Card → Read → Reading
  reading_by n card read = record {
    number = n;
    label = card.label;
    place = card.place;
    statement = option_map (λ r. r.0) read;
    refusal = refusal_by card.place (outcome_from (cut card.label card.text) read);
  }

  abbrev pub readings : ℕ → List Card → List Reading
  readings n [] = []
  readings n (card ∷ cs) = reading_by n card (read_statement card.label (cut card.label card.text)) ∷ readings (suc n) cs

  abbrev pub deck_by : List Card → List Refusal
  deck_by cs = file_refusals (settled (readings 0 cs))

  -- ---- files

  abbrev pub reads : ℕ → List ℕ → List ReadCard
  reads file bytes = map (λ (card : Card). record { place = card.place; spelled = built_at card.label (outcome card) }) (cards file bytes)

  abbrev pub program_by : ℕ → List ℕ → Option SourceProgram
  program_by file bytes = option_map (λ (unit : SourceUnit). record { units = unit ∷ [] }) (read_unit (reads file bytes))

  abbrev pub source_by : ℕ → List ℕ → Option SourceProgram
  source_by file bytes = unless_refused (card_refusals file bytes) (unless_refused (deck_by (cards file bytes)) (unless_refused (type_refusals (reads file bytes)) (program_by file bytes)))

  abbrev pub all_refusals_by : List ℕ → List Refusal
  all_refusals_by bytes =
      first_of (files_refusals 0 0 (bytes ∷ []))
      (first_of (deck_by (cards 0 bytes))
      (first_of (map not_built_at (filter (λ card. not (is_built_as (built_at card.label (outcome card)))) (cards 0 bytes))) (program_refusals (reads 0 bytes))))

-- by the cut of the definitions they are those of the definitions
same_readings : (n : ℕ) (cs : List Card) → card_readings n cs ≡ readings pieces_of n cs
same_readings n [] = refl
same_readings n (card ∷ cs) = ap (λ rs. reading_by pieces_of n card (read_statement card.label (pieces_of card.label card.text)) ∷ rs) (same_readings (suc n) cs)

same_deck : (cs : List Card) → deck_refusals cs ≡ deck_by pieces_of cs
same_deck cs = ap (λ rs. file_refusals (settled rs)) (same_readings 0 cs)

-- what the checker computes
pub source_is : (file : ℕ) (bytes : List ℕ) (read : Option SourceProgram) → source_by lazy_pieces file bytes ≡ read → read_source file bytes ≡ read
source_is file bytes read e =
    ap (λ rs. unless_refused (card_refusals file bytes) (unless_refused rs (unless_refused (type_refusals (reads pieces_of file bytes)) (program_by pieces_of file bytes)))) (same_deck (cards file bytes))
    ∙ (λ i. source_by (λ label text. lazily_cut label text i) file bytes) ∙ e

pub lazily_refused : (bytes : List ℕ) → refusals bytes ≡ all_refusals_by lazy_pieces bytes
lazily_refused bytes =
    ap (λ rs. first_of (files_refusals 0 0 (bytes ∷ []))
    (first_of rs
    (first_of (map not_built_at (filter (λ card. not (is_built_as (built_at card.label (outcome pieces_of card)))) (cards 0 bytes))) (program_refusals (reads pieces_of 0 bytes))))) (same_deck (cards 0 bytes))
    ∙ (λ i. all_refusals_by (λ label text. lazily_cut label text i) bytes)
