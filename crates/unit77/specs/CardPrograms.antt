-- The units that a file is: its cards are statements, and these are the units (X3.9 sections 2.3 and 2.4).
use Rattle.std.specs.Prelude.{◌≡◌, ℕ, suc, List, [], ◌∷◌, map}
use Rattle.text_base.specs.Cards.{Card}
use Rattle.tree77.specs.CardSpelling.{SpellsCard}
use Rattle.unit77.specs.Programs.{ProgramUnit, AreUnits, reading_of}
use Rattle.order77.specs.Settling.{settled}
use Rattle.unit77.specs.Tree.{Line}

-- a card with this number spells the statement of the line
pub record SpellsLine (n : ℕ) (card : Card) (l : Line) : Type 0 where
  pub number : l.number ≡ n
  pub label : l.label ≡ card.label
  pub place : l.place ≡ card.place
  pub spelled : SpellsCard card l.statement

-- cards, numbered from one number on, spell lines one by one
abbrev pub SpellLines : ℕ → List Card → List Line → Type 0
SpellLines n [] ls = ls ≡ []
SpellLines n (card ∷ cards) [] = ⊥
SpellLines n (card ∷ cards) (l ∷ ls) = SpellsLine n card l × SpellLines (suc n) cards ls

-- The cards are the units: each spells a statement; with statement functions told from assignments, the statements are those of
-- the units, one after another.
pub record AreUnitsOf (cards : List Card) (us : List ProgramUnit) : Type 0 where
  pub spelled : List Line
  pub spells : SpellLines 0 cards spelled
  pub lines : List Line
  pub told : map reading_of lines ≡ settled (map reading_of spelled)
  pub units : AreUnits lines us
