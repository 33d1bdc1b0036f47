-- The bytes of some sources. Columns count from 1.
use Rattle.std.specs.Prelude.{ℕ, List, [], ◌∷◌, ◌++◌, replicate, codes}

-- so many blanks, and so many zeros
abbrev pub blanks : ℕ → List ℕ
blanks n = replicate n 32

abbrev pub zeros : ℕ → List ℕ
zeros n = replicate n 0

-- A whole program. It has a comment at each place where one may stand: before the header, behind it, between two statements
-- (a blank line), inside a continued statement, before a CONTINUE, before END (a line that has something behind column 72
-- alone), and behind END, where the file ends without LF. One line ends with CR and LF. One statement goes up to column 72,
-- and something stands behind it.
abbrev pub whole_source : List ℕ
whole_source =
    codes "C HEAD\n"
    ++ codes "      Program T\n"
    ++ codes "*AFTER\n"
    ++ codes "      I = 3 - 2\r\n"
    ++ codes "  \n"
    ++ codes "      J = I\n"
    ++ codes "cINSIDE\n"
    ++ codes "     1 + 4\n"
    ++ codes "      M1 = J" ++ blanks 58 ++ codes "+12OLD10\n"
    ++ codes "! BEFORE CONTINUE\n"
    ++ codes "      CONTINUE\n"
    ++ codes "      STOP\n"
    ++ blanks 72 ++ codes "X\n"
    ++ codes "      END\n"
    ++ codes "!AFTER END\r"

-- a program that ends at its END
abbrev pub short_source : List ℕ
short_source =
    codes "      PROGRAM T\n"
    ++ codes "      I = 1\n"
    ++ codes "      END\n"

-- a program that reads K before it has a value
abbrev pub undefined_source : List ℕ
undefined_source =
    codes "      PROGRAM T\n"
    ++ codes "      I = 1\n"
    ++ codes "      J = K\n"
    ++ codes "      END\n"

-- a program that reaches the greatest integer, and then passes it
abbrev pub overflow_source : List ℕ
overflow_source =
    codes "      PROGRAM T\n"
    ++ codes "      I = 2147483646 + 1\n"
    ++ codes "      J = I + 1\n"
    ++ codes "      END\n"

-- a program with a product, a power, parentheses and an intrinsic function
abbrev pub product_source : List ℕ
product_source =
    codes "      PROGRAM T\n"
    ++ codes "      I = 7\n"
    ++ codes "      J = MOD((I + 2) * 3, 4) ** 2\n"
    ++ codes "      END\n"

-- Files that are the source of no program: an empty one, one without END, one without PROGRAM, one that goes on behind END,
-- one with a label, with a real variable, with the program's name as a variable, with an intrinsic function whose name is that of
-- a variable, with a sum of a logical constant, with a statement that has no spelling, and with a line that is refused.
abbrev pub no_sources : List (List ℕ)
no_sources =
    []
    ∷ (codes "      PROGRAM T\n" ++ codes "      I = 1\n")
    ∷ (codes "      I = 1\n" ++ codes "      END\n")
    ∷ (codes "      PROGRAM T\n" ++ codes "      END\n" ++ codes "      I = 1\n")
    ∷ (codes "      PROGRAM T\n" ++ codes "   10 I = 1\n" ++ codes "      END\n")
    ∷ (codes "      PROGRAM T\n" ++ codes "      A = 1\n" ++ codes "      END\n")
    ∷ (codes "      PROGRAM I\n" ++ codes "      I = 1\n" ++ codes "      END\n")
    ∷ (codes "      PROGRAM T\n" ++ codes "      MOD = 1\n" ++ codes "      J = MOD(1, 2)\n" ++ codes "      END\n")
    ∷ (codes "      PROGRAM MOD\n" ++ codes "      J = MOD(1, 2)\n" ++ codes "      END\n")
    ∷ (codes "      PROGRAM T\n" ++ codes "      I = 1 + .TRUE.\n" ++ codes "      END\n")
    ∷ (codes "      PROGRAM T\n" ++ codes "      I = 1 +\n" ++ codes "      END\n")
    ∷ (codes "      PROGRAM T\n" ++ codes " A    I = 1\n" ++ codes "      END\n")
    ∷ []
