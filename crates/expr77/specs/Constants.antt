-- Constants alone, and the marks that end them (X3.9 section 9.1).
use Rattle.std.specs.Prelude.{◌≡◌, ℕ, Bool, true, false, ◌&&◌, ◌||◌, ◌==◌, List, [], ◌∷◌, if◌then◌else◌}
use Rattle.text_base.specs.Pieces.{Piece, plain, whole, broken}
use Rattle.tree77.specs.Kinds.{open_after}
use Rattle.tree77.specs.Expressions.{is_sum}
use Rattle.tree77.specs.Lexemes.{Lexeme, integer, constant, logical, characters, name, operator}
use Rattle.tree77.specs.Stops.{is_stop}
use Rattle.tree77.specs.Forms.{is_in}

-- what stops an expression, a star and a slash: none of them stands in a constant outside parentheses
abbrev pub is_ending : ℕ → Bool
is_ending c = is_stop c || c == 42 || c == 47

-- a constant or a name
abbrev pub is_single : Lexeme → Bool
is_single (integer d) = true
is_single constant = true
is_single (logical b) = true
is_single (characters v) = true
is_single (name w) = true
is_single _ = false

-- an integer constant, or a refused one, for which 0 stands in the tree
abbrev pub is_numeric : Lexeme → Bool
is_numeric (integer d) = true
is_numeric constant = true
is_numeric _ = false

abbrev pub is_plus_or_minus : Lexeme → Bool
is_plus_or_minus (operator o) = is_sum o
is_plus_or_minus _ = false

-- the lexemes are a constant alone, which may have a sign where it is numeric, or a name
abbrev pub is_alone : List Lexeme → Bool
is_alone [] = false
is_alone (i ∷ []) = is_single i
is_alone (i ∷ j ∷ []) = is_plus_or_minus i && is_numeric j
is_alone (i ∷ j ∷ k ∷ more) = false

-- the pieces end, or begin with one of these marks
abbrev pub EndsAt : List ℕ → List Piece → Type 0
EndsAt marks [] = Unit {0}
EndsAt marks (plain c ∷ rest) = is_in marks c ≡ true
EndsAt marks (whole t ∷ rest) = ⊥
EndsAt marks (broken t ∷ rest) = ⊥

-- the pieces before the first of these marks outside parentheses, where so many are open, and the pieces from there on
abbrev pub until_mark : List ℕ → ℕ → List Piece → List Piece × List Piece
until_mark marks n [] = ([], [])
until_mark marks n (plain c ∷ rest) =
    if n == 0 && is_in marks c then ([], plain c ∷ rest) else (plain c ∷ (until_mark marks (open_after n c) rest).0, (until_mark marks (open_after n c) rest).1)
until_mark marks n (whole t ∷ rest) = (whole t ∷ (until_mark marks n rest).0, (until_mark marks n rest).1)
until_mark marks n (broken t ∷ rest) = (broken t ∷ (until_mark marks n rest).0, (until_mark marks n rest).1)
