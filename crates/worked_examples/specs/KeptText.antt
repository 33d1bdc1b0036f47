-- A file with labels and kept text, and pieces with their tokens.
use Rattle.std.specs.Prelude.{ℕ, List, [], ◌∷◌, ◌++◌, map, replicate, codes}
use Rattle.text_base.specs.Cards.{Card}
use Rattle.text_base.specs.Pieces.{Piece, whole, broken}
use Rattle.tree77.specs.Tokens.{Token, run, digits, kept, mark}
use Rattle.worked_examples.specs.Read.{at_line}
use Rattle.worked_examples.specs.Sources.{blanks, zeros}
use Rattle.worked_examples.specs.Statements.{outside}

-- so many ones
abbrev pub ones : ℕ → List ℕ
ones n = replicate n 1

-- A FORMAT with the text of 3H and a constant; a constant with a doubled apostrophe; an initial line with 0 in column 6; and a
-- line that is no FORMAT, since it has no label.
abbrev pub kept_source : List ℕ
kept_source =
    codes " 1 0  Format(3Ha b,'C d')\n"
    ++ codes "      c = 'it''s' // d\n"
    ++ codes "999990end\n"
    ++ codes "      Format(3Ha b)\n"

-- columns 7 to 72 of its lines
abbrev pub format_text : List ℕ
format_text = codes "Format(3Ha b,'C d')" ++ blanks 47

abbrev pub constant_text : List ℕ
constant_text = codes "c = 'it''s' // d" ++ blanks 50

abbrev pub unlabelled_text : List ℕ
unlabelled_text = codes "Format(3Ha b)" ++ blanks 53

-- which of the characters are kept text
abbrev pub format_marks : List ℕ
format_marks = zeros 9 ++ ones 3 ++ zeros 1 ++ ones 5 ++ zeros 48

abbrev pub constant_marks : List ℕ
constant_marks = zeros 4 ++ ones 7 ++ zeros 55

abbrev pub kept_cards : List Card
kept_cards =
    record { label = 10; text = format_text; kept = format_marks; place = at_line 1 }
    ∷ record { label = 0; text = constant_text; kept = constant_marks; place = at_line 2 }
    ∷ record { label = 99999; text = codes "end" ++ blanks 63; kept = zeros 66; place = at_line 3 }
    ∷ record { label = 0; text = unlabelled_text; kept = zeros 66; place = at_line 4 }
    ∷ []

abbrev pub format_pieces : List Piece
format_pieces = outside (codes "FORMAT(3H") ++ whole (codes "a b") ∷ (outside (codes ",") ++ whole (codes "'C d'") ∷ outside (codes ")"))

abbrev pub constant_pieces : List Piece
constant_pieces = outside (codes "C=") ++ whole (codes "'it''s'") ∷ outside (codes "//D")

-- a constant that doesn't end
abbrev pub open_text : List ℕ
open_text = codes "C = ''''  'D e"

abbrev pub open_pieces : List Piece
open_pieces = outside (codes "C=") ++ whole (codes "''''") ∷ broken (codes "'D e") ∷ []

-- ---- tokens

abbrev a_run : List ℕ → Token
a_run text = record { kind = run; text = text }

abbrev some_digits : List ℕ → Token
some_digits text = record { kind = digits; text = text }

abbrev a_text : List ℕ → Token
a_text text = record { kind = kept; text = text }

abbrev a_mark : List ℕ → Token
a_mark text = record { kind = mark; text = text }

-- pieces with their tokens
abbrev pub cuts : List (List Piece × List Token)
cuts =
    ([], [])
    ∷ (outside (codes "DO10I=1,5"), a_run (codes "DO10I") ∷ a_mark (codes "=") ∷ some_digits (codes "1") ∷ a_mark (codes ",") ∷ some_digits (codes "5") ∷ [])
    ∷ (outside (codes "A_2.EQ.3H_X1"), a_run (codes "A_2") ∷ a_mark (codes ".") ∷ a_run (codes "EQ") ∷ a_mark (codes ".") ∷ some_digits (codes "3") ∷ a_run (codes "H_X1") ∷ [])
    ∷ (outside (codes "(),=+-*/:."), map (λ c. a_mark (c ∷ [])) (codes "(),=+-*/:."))
    ∷ (constant_pieces, a_run (codes "C") ∷ a_mark (codes "=") ∷ a_text (codes "'it''s'") ∷ a_mark (codes "/") ∷ a_mark (codes "/") ∷ a_run (codes "D") ∷ [])
    ∷ (whole (codes "' A'") ∷ whole (codes "'B '") ∷ [], a_text (codes "' A'") ∷ a_text (codes "'B '") ∷ [])
    ∷ []

-- pieces without tokens: a character that begins none, an underscore before letters, and a constant that doesn't end
abbrev pub uncut : List (List Piece)
uncut = outside (codes "A=1$") ∷ outside (codes "_A") ∷ outside (codes "A.2_") ∷ open_pieces ∷ []
