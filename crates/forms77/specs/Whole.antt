-- What pieces are read as by the form of a sort, as a whole.
use Rattle.std.specs.Prelude.{List, [], ◌∷◌, Option, Some, None}
use Rattle.std.specs.Option.{option_and_then}
use Rattle.text_base.specs.Pieces.{Piece}
use Rattle.tree77.specs.FormTable.{Sort, form_of}
use Rattle.tree77.specs.Lexemes.{Part}
use Rattle.tree77.specs.Spelling.{room_of}
use Rattle.tree77.specs.Statements.{Statement}
use Rattle.tree77.specs.Tokens.{Token}
use Rattle.scan77.specs.TokenReading.{no_token, read_tokens}
use Rattle.forms77.specs.Reading.{State, Reader, read}

abbrev pub start : List Token → State
start ts = record { tokens = ts; depth = 0; lowest = None }

-- nothing is left
abbrev pub ended : {A : Type 0} → A → Option Part → List Token → Option (A × Option Part)
ended x lowest [] = Some (x, lowest)
ended x lowest (t ∷ ts) = None

abbrev pub read_to_end : {A : Type 0} → Reader A → List Token → Option (A × Option Part)
read_to_end one ts = option_and_then (λ a. ended a.0 a.1.lowest a.1.tokens) (one (start ts))

-- what all pieces are read as, and the lowest part of them that is refused
abbrev pub whole_by : {A : Type 0} → Reader A → List Piece → Option (A × Option Part)
whole_by one pieces = option_and_then (read_to_end one) (read_tokens pieces no_token)

-- the same by the form of a sort
abbrev pub whole_of : Sort → List Piece → Option (Statement × Option Part)
whole_of k pieces = whole_by (read (form_of (room_of pieces) k)) pieces
