-- The pieces of a statement as a function of its characters, read one after another: a law says that these are its pieces.
use Rattle.std.specs.Prelude.{ℕ, false, not, ◌==◌, List, [], ◌∷◌, ◌++◌, None, if◌then◌else◌}
use Rattle.text_base.specs.Chars.{to_upper}
use Rattle.text_base.specs.Kept.{Scan, scan_start, scan_after}
use Rattle.text_base.specs.Pieces.{Piece, plain, whole, broken, counted_piece}

-- the kept text that is being read, as far as it has come
pub data Current : Type 0 where
  no_text : Current
  constant : List ℕ → Current
  counted : List ℕ → Current

-- its piece, before other pieces
abbrev pub closed : Current → List Piece → List Piece
closed no_text more = more
closed (constant text) more = whole text ∷ more
closed (counted text) more = counted_piece text more

-- one more character of a constant, which may begin with it, and of the text of an nH
abbrev pub more_constant : Current → ℕ → Current
more_constant no_text c = constant (c ∷ [])
more_constant (constant text) c = constant (text ++ c ∷ [])
more_constant (counted text) c = constant (c ∷ [])

abbrev pub more_counted : Current → ℕ → Current
more_counted no_text c = counted (c ∷ [])
more_counted (constant text) c = counted (c ∷ [])
more_counted (counted text) c = counted (text ++ c ∷ [])

-- where a constant goes on or begins, the text of an nH is whole, and the other way round
abbrev pub closed_counted : Current → List Piece → List Piece
closed_counted no_text more = more
closed_counted (constant text) more = more
closed_counted (counted text) more = counted_piece text more

abbrev pub closed_constant : Current → List Piece → List Piece
closed_constant no_text more = more
closed_constant (constant text) more = whole text ∷ more
closed_constant (counted text) more = more

-- at the end of the statement
abbrev pub last_piece : Scan → Current → List Piece
last_piece s no_text = []
last_piece s (constant text) = if s.inside then broken text ∷ [] else whole text ∷ []
last_piece s (counted text) = counted_piece text []

abbrev pub plain_piece : ℕ → List Piece → List Piece
plain_piece c more = if c == 32 then more else plain (to_upper c) ∷ more

-- the pieces of some characters
abbrev pub pieces_from : Scan → Current → List ℕ → List Piece
pieces_from s current [] = last_piece s current
pieces_from s current (c ∷ t) =
    if s.inside then closed_counted current (pieces_from (scan_after s c) (more_constant current c) t)
    else (if not (s.left == 0) then closed_constant current (pieces_from (scan_after s c) (more_counted current c) t)
    else (if c == 39 then closed_counted current (pieces_from (scan_after s c) (more_constant current c) t)
    else closed current (plain_piece c (pieces_from (scan_after s c) no_text t))))

-- what has been read: the pieces that are whole, and the kept text that is being read
pub record ReadSoFar : Type 0 where
  pub pieces : List Piece
  pub current : Current

-- the pieces of a statement with this label
abbrev pub pieces_of : ℕ → List ℕ → List Piece
pieces_of label text = pieces_from (scan_start label) no_text text

-- behind the keyword of a FORMAT and its parenthesis
abbrev pub format_start : Scan
format_start = record { matched = 7; inside = false; left = 0; count = None }

-- the pieces of a text in a FORMAT, as those of a character constant that is a format (X3.9 section 13.1.2)
abbrev pub format_pieces_of : List ℕ → List Piece
format_pieces_of text = pieces_from format_start no_text text
