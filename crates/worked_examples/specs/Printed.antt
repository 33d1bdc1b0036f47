-- Expressions and lines of the map, as they are written.
use Rattle.std.specs.Prelude.{ℕ, true, false, List, [], ◌∷◌, codes}
use Rattle.text_base.specs.Trees.{plus, minus, negation, power, times, over, add, subtract, concat, less, less_equal, equal, not_equal, greater, greater_equal, conjunction, disjunction, equivalence, nonequivalence, Expr, bool, text, call, substring, unary, binary, paren, none, more, absent, at}
use Rattle.text_base.specs.Values.{Kind, integers, logicals, characters}
use Rattle.project_set.specs.MapText.{MapLine}
use Rattle.worked_examples.specs.Read.{variable, number}

abbrev a : Expr
a = variable (codes "A")

abbrev b : Expr
b = variable (codes "B")

-- expressions with their text
abbrev pub printed_expressions : List (Expr × List ℕ)
printed_expressions =
    (binary power a b, codes "A ** B")
    ∷ (binary times a b, codes "A * B")
    ∷ (binary over a b, codes "A / B")
    ∷ (binary add a b, codes "A + B")
    ∷ (binary subtract a b, codes "A - B")
    ∷ (binary concat a b, codes "A // B")
    ∷ (binary less a b, codes "A < B")
    ∷ (binary less_equal a b, codes "A <= B")
    ∷ (binary equal a b, codes "A == B")
    ∷ (binary not_equal a b, codes "A /= B")
    ∷ (binary greater a b, codes "A > B")
    ∷ (binary greater_equal a b, codes "A >= B")
    ∷ (binary conjunction a b, codes "A .AND. B")
    ∷ (binary disjunction a b, codes "A .OR. B")
    ∷ (binary equivalence a b, codes "A .EQV. B")
    ∷ (binary nonequivalence a b, codes "A .NEQV. B")
    ∷ (unary plus a, codes "+A")
    ∷ (unary minus a, codes "-A")
    ∷ (unary negation a, codes ".NOT. A")
    ∷ (paren (binary add a (number 10)), codes "(A + 10)")
    ∷ (number 0, codes "0")
    ∷ (bool true, codes ".TRUE.")
    ∷ (bool false, codes ".FALSE.")
    ∷ (text (codes "it's"), codes "'it''s'")
    ∷ (call (codes "F") none, codes "F()")
    ∷ (call (codes "F") (more a (more b none)), codes "F(A, B)")
    ∷ (substring a (at (number 2)) (at b), codes "A(2:B)")
    ∷ (substring (call (codes "A") (more b none)) absent (at (number 3)), codes "A(B)(:3)")
    ∷ []

-- lines of a map with their text
abbrev map_line : Kind → MapLine
map_line kind = record { sequence = codes "T.A"; first = 4; count = 10; kind = kind; home = codes "T"; object = codes "A_2"; at = 5 }

abbrev pub map_lines : List (MapLine × List ℕ)
map_lines =
    (map_line integers, codes "T.A 4 10 I T:A_2 5\n")
    ∷ (map_line logicals, codes "T.A 4 10 L T:A_2 5\n")
    ∷ (map_line characters, codes "T.A 4 10 C T:A_2 5\n")
    ∷ []
