-- The pieces that characters with their marks are.
use Rattle.std.specs.Prelude.{ℕ, List, [], ◌∷◌, map}
use Rattle.text_base.specs.Pieces.{Piece, plain, whole, broken, counted_piece}
use Rattle.scan77.specs.declared.mark.Mark.{Mark}
use Rattle.scan77.specs.declared.mark.Mark.TheVariants.{Plain, First, Further, Open}

-- one more character, before the further characters of a kept text and the pieces behind it
abbrev pub with_mark : Mark → ℕ → List ℕ × List Piece → List ℕ × List Piece
with_mark Plain c behind = ([], plain c ∷ counted_piece behind.0 behind.1)
with_mark First c behind = ([], whole (c ∷ behind.0) ∷ behind.1)
with_mark Open c behind = ([], broken (c ∷ behind.0) ∷ behind.1)
with_mark Further c behind = (c ∷ behind.0, behind.1)

-- The further characters of a kept text with which some characters begin, and the pieces behind it. A character without
-- a mark stands outside kept text.
abbrev pub kept_and_pieces : List ℕ → List Mark → List ℕ × List Piece
kept_and_pieces [] marks = ([], [])
kept_and_pieces (c ∷ t) [] = ([], map plain (c ∷ t))
kept_and_pieces (c ∷ t) (m ∷ marks) = with_mark m c (kept_and_pieces t marks)

-- the pieces that characters with their marks are
abbrev pub pieces_in : List ℕ → List Mark → List Piece
pieces_in text marks = counted_piece (kept_and_pieces text marks).0 (kept_and_pieces text marks).1
