-- What the reading by a form says of pieces, and they of it.
use Rattle.std.specs.Prelude.{◌≡◌, ◌++◌, ◌+◌, ℕ, ◌≤◌, true, List, length, Option, Some, if◌then◌else◌}
use Rattle.text_base.specs.Pieces.{Piece}
use Rattle.tree77.specs.Tokens.{Token, IsCut}
use Rattle.tree77.specs.Lexemes.{Part}
use Rattle.expr77.specs.Gathering.{keep}
use Rattle.tree77.specs.Forms.{Form, Matches, first_sort}
use Rattle.forms77.specs.Goodness.{stops, is_null}
use Rattle.forms77.specs.Reading.{State, read}

-- p was read in this state, where the tokens that were left were cut of these pieces: the first of them have the form, if
-- what stands behind them may
pub record Took {A : Type 0} (f : Form A) (s : State) (p : A × State) (pieces : List Piece) : Type 0 where
  pub front : List Piece
  pub rest : List Piece
  pub parts : List Part
  pub whole : pieces ≡ front ++ rest
  pub formed : stops f (first_sort rest) ≡ true → Matches f s.depth front p.0 parts
  pub cut : IsCut rest p.1.tokens
  pub depth : p.1.depth ≡ s.depth
  pub lowest : p.1.lowest ≡ keep s.lowest parts

-- how many tokens a form takes at least
abbrev pub at_least : {A : Type 0} → Form A → ℕ
at_least f = if is_null f then 0 else 1

-- x is read of these tokens, and the tokens that are left then are cut of the rest
pub record Reads {A : Type 0} (f : Form A) (depth : ℕ) (lowest : Option Part) (tokens : List Token) (x : A) (parts : List Part) (rest : List Piece) : Type 0 where
  pub left : List Token
  pub cut : IsCut rest left
  pub fewer : length left + at_least f ≤ length tokens
  pub is : read f (record { tokens = tokens; depth = depth; lowest = lowest }) ≡ Some (x, record { tokens = left; depth = depth; lowest = keep lowest parts })
