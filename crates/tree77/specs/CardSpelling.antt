-- How the characters of a card spell a statement.
use Rattle.std.specs.Prelude.{List}
use Rattle.text_base.specs.Cards.{Card}
use Rattle.text_base.specs.Kept.{is_format}
use Rattle.text_base.specs.Pieces.{Piece, IsPieces}
use Rattle.tree77.specs.Lexemes.{Part}
use Rattle.tree77.specs.Spelling.{SpellsStatement, IsRefusedStatement}
use Rattle.tree77.specs.Statements.{Statement}

-- the card spells the statement
pub record SpellsCard (card : Card) (s : Statement) : Type 0 where
  pub pieces : List Piece
  pub cut : IsPieces (is_format card.label card.text) card.text pieces
  pub spelled : SpellsStatement card.label pieces s

-- the card is refused for this part, as the statement on it
pub record IsRefusedCard (card : Card) (p : Part) : Type 0 where
  pub pieces : List Piece
  pub cut : IsPieces (is_format card.label card.text) card.text pieces
  pub refused : IsRefusedStatement card.label pieces p
