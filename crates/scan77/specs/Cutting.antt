-- The first token of some pieces.
use Rattle.std.specs.Prelude.{◌≡◌, ℕ, Bool, List, [], ◌∷◌, ◌++◌, if◌then◌else◌}
use Rattle.text_base.specs.Pieces.{Piece, plain, whole, broken}
use Rattle.tree77.specs.Tokens.{TokenKind, pieces_by, MayPrecede}

-- what is left behind all first characters outside kept text that pass
abbrev pub behind_passing : (ℕ → Bool) → List Piece → List Piece
behind_passing test [] = []
behind_passing test (plain c ∷ rest) = if test c then behind_passing test rest else plain c ∷ rest
behind_passing test (whole t ∷ rest) = whole t ∷ rest
behind_passing test (broken t ∷ rest) = broken t ∷ rest

-- the first token of the pieces is of this kind, and the rest stands behind it
pub record IsFirst (kind : TokenKind) (pieces rest : List Piece) : Type 0 where
  pub text : List ℕ
  pub front : pieces ≡ pieces_by kind text ++ rest
  pub stands : MayPrecede (record { kind = kind; text = text }) rest
