-- A part of the pieces of a statement.
use Rattle.std.specs.Prelude.{ℕ, ◌==◌, List, [], ◌∷◌, Option, Some, None, if◌then◌else◌}
use Rattle.std.specs.Option.{option_map}
use Rattle.text_base.specs.Chars.{is_digit}
use Rattle.text_base.specs.Pieces.{Piece, plain, whole, broken}
use Rattle.tree77.specs.Kinds.{open_after}
use Rattle.scan77.specs.PieceList.{pieces_in}
use Rattle.scan77.specs.declared.piece_slice.PieceSlice.{PieceSlice}

-- the pieces that the slice is
abbrev pub slice_of : PieceSlice → List Piece
slice_of slice = pieces_in slice.text.now slice.marks.now

-- the first piece, if it is a character outside kept text, and what is left behind it
abbrev pub uncons_plain : List Piece → Option (ℕ × List Piece)
uncons_plain [] = None
uncons_plain (plain c ∷ rest) = Some (c, rest)
uncons_plain (whole t ∷ rest) = None
uncons_plain (broken t ∷ rest) = None

-- what is left behind a word outside kept text, if it stands here
abbrev pub behind_plain : List ℕ → List Piece → Option (List Piece)
behind_plain [] pieces = Some pieces
behind_plain (d ∷ word) [] = None
behind_plain (d ∷ word) (plain c ∷ rest) = if c == d then behind_plain word rest else None
behind_plain (d ∷ word) (whole t ∷ rest) = None
behind_plain (d ∷ word) (broken t ∷ rest) = None

-- ---- parts of pieces

-- the first piece, and what is left behind it
abbrev pub uncons_piece : List Piece → Option (Piece × List Piece)
uncons_piece [] = None
uncons_piece (p ∷ rest) = Some (p, rest)

-- one piece more before the first part
abbrev pub with_piece : Piece → Option (List Piece × List Piece) → Option (List Piece × List Piece)
with_piece p parts = option_map (λ r. (p ∷ r.0, r.1)) parts

-- where so many parentheses are open: the pieces to the one with which none is open any more, and those behind it
abbrev pub split_partner : ℕ → List Piece → Option (List Piece × List Piece)
split_partner n [] = None
split_partner n (plain c ∷ rest) = if open_after n c == 0 then Some (plain c ∷ [], rest) else with_piece (plain c) (split_partner (open_after n c) rest)
split_partner n (whole t ∷ rest) = with_piece (whole t) (split_partner n rest)
split_partner n (broken t ∷ rest) = with_piece (broken t) (split_partner n rest)

-- the parentheses that stand first, with what is in them, and the pieces behind; nothing where none stand first, or the partner is missing
abbrev pub split_group : List Piece → Option (List Piece × List Piece)
split_group [] = None
split_group (plain c ∷ rest) = if c == 40 then split_partner 0 (plain c ∷ rest) else None
split_group (whole t ∷ rest) = None
split_group (broken t ∷ rest) = None

-- the digits that stand first, and the pieces behind
abbrev pub split_digits : List Piece → List Piece × List Piece
split_digits [] = ([], [])
split_digits (plain c ∷ rest) = if is_digit c then (plain c ∷ (split_digits rest).0, (split_digits rest).1) else ([], plain c ∷ rest)
split_digits (whole t ∷ rest) = ([], whole t ∷ rest)
split_digits (broken t ∷ rest) = ([], broken t ∷ rest)

-- digits, or else parentheses
abbrev pub digits_or_group : List Piece × List Piece → List Piece → Option (List Piece × List Piece)
digits_or_group ([], rest) pieces = split_group pieces
digits_or_group (d ∷ ds, rest) pieces = Some (d ∷ ds, rest)

-- the length of a type, which is a star with digits or parentheses behind it, or nothing, and the pieces behind it
abbrev pub split_size : List Piece → Option (List Piece × List Piece)
split_size [] = Some ([], [])
split_size (plain c ∷ rest) = if c == 42 then with_piece (plain c) (digits_or_group (split_digits rest) rest) else Some ([], plain c ∷ rest)
split_size (whole t ∷ rest) = Some ([], whole t ∷ rest)
split_size (broken t ∷ rest) = Some ([], broken t ∷ rest)
