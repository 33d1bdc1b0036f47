-- The first piece of some pieces, and the pieces before a last one.
use Rattle.std.specs.Prelude.{ℕ, Bool, true, false, ◌==◌, List, [], ◌∷◌, Option, Some, None, if◌then◌else◌}
use Rattle.std.specs.Option.{option_map}
use Rattle.text_base.specs.Pieces.{Piece, plain, whole, broken}
use Rattle.scan77.specs.declared.mark.Mark.{Mark}
use Rattle.scan77.specs.declared.mark.Mark.TheVariants.{Plain, First, Further, Open}
use Rattle.scan77.specs.declared.first_piece.FirstPiece.{FirstPiece}
use Rattle.scan77.specs.declared.first_piece.FirstPiece.TheVariants as v

abbrev pub piece_of : FirstPiece → Piece
piece_of (v.Plain c) = plain c
piece_of (v.Whole t) = whole t.now
piece_of (v.Broken t) = broken t.now

abbrev pub is_plain_piece : ℕ → Piece → Bool
is_plain_piece c (plain d) = d == c
is_plain_piece c (whole t) = false
is_plain_piece c (broken t) = false

-- the pieces before a character outside kept text at the end
abbrev pub before_plain : ℕ → List Piece → Option (List Piece)
before_plain c [] = None
before_plain c (p ∷ []) = if is_plain_piece c p then Some [] else None
before_plain c (p ∷ q ∷ rest) = option_map (λ ps. p ∷ ps) (before_plain c (q ∷ rest))

-- the mark of a character outside kept text, which may lack
abbrev pub is_plain_mark : Option Mark → Bool
is_plain_mark None = true
is_plain_mark (Some Plain) = true
is_plain_mark (Some First) = false
is_plain_mark (Some Further) = false
is_plain_mark (Some Open) = false
