-- Where an expression stops among the pieces of a statement.
use Rattle.std.specs.Prelude.{◌≡◌, ℕ, Bool, true, ◌&&◌, ◌||◌, ◌==◌, List, [], ◌∷◌, if◌then◌else◌}
use Rattle.text_base.specs.Chars.{is_upper, is_digit}
use Rattle.text_base.specs.Pieces.{Piece, plain, whole, broken}
use Rattle.tree77.specs.Kinds.{open_after}

-- ) , = :
abbrev pub is_stop : ℕ → Bool
is_stop c = c == 41 || c == 44 || c == 61 || c == 58

-- the pieces end, or begin with a mark that stops an expression
abbrev pub Stops : List Piece → Type 0
Stops [] = Unit {0}
Stops (plain c ∷ rest) = is_stop c ≡ true
Stops (whole t ∷ rest) = ⊥
Stops (broken t ∷ rest) = ⊥

-- the pieces before the first such mark outside parentheses, where so many are open, and the pieces from there on
abbrev pub until_stop : ℕ → List Piece → List Piece × List Piece
until_stop n [] = ([], [])
until_stop n (plain c ∷ rest) =
    if n == 0 && is_stop c then ([], plain c ∷ rest) else (plain c ∷ (until_stop (open_after n c) rest).0, (until_stop (open_after n c) rest).1)
until_stop n (whole t ∷ rest) = (whole t ∷ (until_stop n rest).0, (until_stop n rest).1)
until_stop n (broken t ∷ rest) = (broken t ∷ (until_stop n rest).0, (until_stop n rest).1)

-- what an expression begins with: a letter, a digit, an opening parenthesis, a point, a sign or a character constant
abbrev pub begins_expression : ℕ → Bool
begins_expression c = is_upper c || is_digit c || c == 40 || c == 46 || c == 43 || c == 45

abbrev pub Begins : List Piece → Type 0
Begins [] = ⊥
Begins (plain c ∷ rest) = begins_expression c ≡ true
Begins (whole t ∷ rest) = Unit {0}
Begins (broken t ∷ rest) = ⊥
