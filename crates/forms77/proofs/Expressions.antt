-- Expressions among other parts of a statement.
use Rattle.std.proofs.Common.{◌≡◌, ℕ, List, Option, Some}
use Rattle.text_base.specs.Pieces.{Piece}
use Rattle.text_base.specs.Trees.{Expr}
use Rattle.tree77.specs.Tokens.{Token, IsCut}
use Rattle.tree77.specs.Lexemes.{Lexeme, Part, parts_from, IsWideExpression}
use Rattle.expr77.specs.Gathering.{keep}
use Rattle.expr77.specs.Outcome.{expression_of}
use Rattle.forms77.proofs.Lower.{Lower}

-- the pieces are a wide expression, with these parts
pub record IsWideOf (u : List Piece) (l : Option Part) (d : ℕ) (p : Expr × Option Part) : Type 0 where
  pub lexemes : List Lexeme
  pub wide : IsWideExpression u lexemes p.0
  pub lowest : p.1 ≡ keep l (parts_from d lexemes)

pub wide_took : Lower → (u : List Piece) (l : Option Part) (d : ℕ) (ts : List Token) (p : Expr × Option Part) → IsCut u ts → expression_of d l ts ≡ Some p → IsWideOf u l d p
wide_took low u l d ts p cut e = let w = low.expression_found u ts d l p.0 p.1 cut e in record { lexemes = w.0; wide = w.1; lowest = w.2 }
