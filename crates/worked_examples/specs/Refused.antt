-- Files of which something is refused.
use Rattle.std.specs.Prelude.{ℕ, List, [], ◌∷◌, ◌++◌, flat_map, codes}
use Rattle.text_base.specs.LineRefusals.{Begun}
use Rattle.text_base.specs.declared.refusal.Cause.{Cause}
use Rattle.text_base.specs.declared.refusal.Cause.TheVariants.{LineTooLong, BadLabelField, ContinuationFirst, BadCharacter, NotAStatement, Unsupported, ConstantRange, NameTooLong, StatementOrder, BadNesting, MissingEnd, RealType, Redeclared, TypeMismatch, NotBuilt}
use Rattle.text_base.specs.declared.refusal.Refusal.{Refusal}
use Rattle.worked_examples.specs.Read.{at_line}
use Rattle.worked_examples.specs.Sources.{blanks, zeros}

-- a refusal at a line, with what it names
abbrev pub at : ℕ → Cause → List ℕ → Refusal
at line cause name = record { place = at_line line; cause = cause; name = name }

-- a main program T with some lines between its header, on line 1, and its END
abbrev pub program_with : List ℕ → List ℕ
program_with text = codes "      PROGRAM T\n" ++ text ++ codes "      END\n"

-- a text so many times
abbrev pub repeated : ℕ → List ℕ → List ℕ
repeated n text = flat_map (λ k. text) (zeros n)

-- files, and all that is refused of them
abbrev pub refused_sources : List (List ℕ × List Refusal)
refused_sources =
    -- a letter in the label field, a label of zeros, and a label in a continuation line
    (program_with (codes "  A   I = 1\n"), at 2 BadLabelField (codes "3") ∷ [])
    ∷ (program_with (codes " 0 0  I = 1\n"), at 2 BadLabelField (codes "1") ∷ [])
    ∷ (program_with (codes "      I = 1\n" ++ codes " 1   1+ 2\n"), at 3 BadLabelField (codes "2") ∷ [])
    -- a continuation line before any initial line, and behind a comment
    ∷ (codes "     1 I = 1\n" ++ codes "      END\n", at 1 ContinuationFirst (codes "6") ∷ [])
    ∷ (codes "C     C\n" ++ codes "     1 I = 1\n", at 2 ContinuationFirst (codes "6") ∷ [])
    -- behind a refused initial line the statement before it goes on: in an open constant, and in a text that nH keeps; and where
    -- there is none, one without characters
    ∷ (program_with (codes "      I = 'A\n" ++ codes "1A    J = 1\n" ++ codes "     1" ++ 233 ∷ codes "\n"), at 3 BadLabelField (codes "2") ∷ [])
    ∷ (program_with (codes "   10 FORMAT(70H\n" ++ codes "1A    J = 1\n" ++ codes "     1" ++ 233 ∷ codes "\n"), at 3 BadLabelField (codes "2") ∷ [])
    ∷ (program_with (codes "   10 FORMAT(56H\n" ++ codes "1A    J = 1\n" ++ codes "     1" ++ 233 ∷ codes "\n"), at 3 BadLabelField (codes "2") ∷ at 4 BadCharacter (codes "7") ∷ [])
    ∷ (codes "1A    J = 1\n" ++ codes "     1 + 1\n", at 1 BadLabelField (codes "2") ∷ [])
    -- the byte 31 outside a constant; a tab inside one, in column 6, and behind column 72
    ∷ (program_with (codes "      I =" ++ 31 ∷ codes "1\n"), at 2 BadCharacter (codes "10") ∷ [])
    ∷ (program_with (codes "      C = '\t'\n"), at 2 BadCharacter (codes "12") ∷ [])
    ∷ (program_with (codes "      I = 1\n" ++ codes "     \t+ 2\n"), at 3 BadCharacter (codes "6") ∷ [])
    ∷ (program_with (codes "      I = 1" ++ blanks 61 ++ codes "\t\n"), [])
    -- the bytes 126 and 127; a greater one outside a constant, and inside one
    ∷ (program_with (codes "      I = ~\n"), at 2 NotAStatement (codes "I=~") ∷ [])
    ∷ (program_with (codes "      C = '" ++ 127 ∷ codes "'\n"), at 2 BadCharacter (codes "12") ∷ [])
    ∷ (program_with (codes "      I = " ++ 128 ∷ codes "\n"), at 2 BadCharacter (codes "11") ∷ [])
    ∷ (program_with (codes "      C = '" ++ 128 ∷ codes "'\n"), at 2 NotBuilt (codes "C='" ++ 128 ∷ codes "'") ∷ [])
    -- a comment and a line of a statement of 133 characters, and one of 132
    ∷ (program_with (codes "C" ++ blanks 132 ++ codes "\n"), at 2 LineTooLong (codes "133") ∷ [])
    ∷ (program_with (codes "      I = 1" ++ blanks 122 ++ codes "\n"), at 2 LineTooLong (codes "133") ∷ [])
    ∷ (program_with (codes "      I = 1" ++ blanks 121 ++ codes "\n"), [])
    -- statements without spelling and with refused parts, all of them and no statement that isn't converted only
    ∷ (
      program_with (codes "      I == 1\n" ++ codes "      REAL X\n" ++ codes "      I = 2147483648\n" ++ codes "      J = I * 2\n" ++ codes "      PAUSE 'A\n" ++ codes "      INQUIRE (5, EXIST=L)\n"),
      at 2 NotAStatement (codes "I==1") ∷ at 3 Unsupported (codes "REAL") ∷ at 4 ConstantRange (codes "2147483648") ∷ at 6 Unsupported (codes "PAUSE") ∷ at 7 Unsupported (codes "INQUIRE") ∷ [],
    )
    ∷ (
      program_with (codes "      ABCDEFGHIJKLMNOPQRSTUVWXYZ123456 = 1\n" ++ codes "   10 FORMAT (F8.3)\n" ++ codes "      GO TO (10, 20) I\n"),
      at 2 NameTooLong (codes "ABCDEFGHIJKLMNOPQRSTUVWXYZ12345") ∷ at 3 Unsupported (codes "EDIT") ∷ [],
    )
    -- several lines, in order, before any statement
    ∷ (program_with (codes "X     I = 1\n" ++ codes "      A = 1\n" ++ codes "      J =\t1\n"), at 2 BadLabelField (codes "1") ∷ at 4 BadCharacter (codes "10") ∷ [])
    -- a real variable, which is refused once, the program's name as a variable, a label, and a relation
    ∷ (program_with (codes "      A = 1\n" ++ codes "      I = A\n"), at 2 RealType (codes "A") ∷ [])
    ∷ (codes "      PROGRAM I\n" ++ codes "      I = 1\n" ++ codes "      END\n", at 2 Redeclared (codes "I") ∷ [])
    ∷ (program_with (codes "   10 I = 1\n"), at 2 NotBuilt (codes "I=1") ∷ [])
    ∷ (program_with (codes "      L = I .EQ. 2\n"), at 2 NotBuilt (codes "L=I.EQ.2") ∷ [])
    -- an intrinsic function; a function that is none, and one of characters, before one of too few arguments
    ∷ (program_with (codes "      J = MAX(I, 2, -3)\n"), [])
    ∷ (program_with (codes "      J = F(1)\n" ++ codes "      J = MOD(1)\n" ++ codes "      J = LEN('A')\n"), at 2 NotBuilt (codes "J=F(1)") ∷ at 4 NotBuilt (codes "J=LEN('A')") ∷ [])
    ∷ (program_with (codes "      J = MOD(1)\n"), at 2 TypeMismatch (codes "MOD") ∷ [])
    -- a function that has the program's name
    ∷ (codes "      PROGRAM MOD\n" ++ codes "      J = 1 + MOD(1, 2)\n" ++ codes "      END\n", at 2 Redeclared (codes "MOD") ∷ [])
    -- integer variables begin with I to N
    ∷ (program_with (codes "      H = 1\n" ++ codes "      I = 1\n" ++ codes "      N = 1\n" ++ codes "      O = 1\n"), at 2 RealType (codes "H") ∷ at 5 RealType (codes "O") ∷ [])
    -- the first 12 characters are shown; each statement has its refusal
    ∷ (program_with (codes "      LONG = I12345 .EQ. 2\n" ++ codes "      GO TO 10\n"), at 2 NotBuilt (codes "LONG=I12345.") ∷ at 3 NotBuilt (codes "GOTO10") ∷ [])
    -- a written line of 132 characters, and one of 133
    ∷ (program_with (codes "      I=-1" ++ repeated 31 (codes "+1") ++ codes "\n"), [])
    ∷ (program_with (codes "      I1=-1" ++ repeated 30 (codes "+1") ++ codes "+\n" ++ codes "     11\n"), at 2 NotBuilt (codes "I1=-1+1+1+1+") ∷ [])
    -- a declaration behind an executable statement, a second header, an END IF without IF, a DO without its terminal statement, and a
    -- GO TO as one; each is refused before what isn't converted
    ∷ (program_with (codes "      I = 1\n" ++ codes "      INTEGER J\n" ++ codes "      SUBROUTINE S\n"), at 3 StatementOrder (codes "INTEGER") ∷ at 4 StatementOrder (codes "SUBROUTINE") ∷ [])
    ∷ (program_with (codes "      END IF\n" ++ codes "      J = I * 2\n"), at 2 BadNesting (codes "ENDIF") ∷ [])
    ∷ (program_with (codes "      DO 10 I = 1, 3\n" ++ codes "      IF (I .GT. 1) THEN\n" ++ codes "   10 CONTINUE\n" ++ codes "      END IF\n"), at 2 BadNesting (codes "10") ∷ [])
    ∷ (program_with (codes "      DO 10 I = 1, 3\n" ++ codes "   10 GO TO 20\n"), at 3 BadNesting (codes "GOTO") ∷ [])
    -- units without END
    ∷ (codes "      PROGRAM T\n" ++ codes "      I = 1\n", at 2 MissingEnd (codes "T") ∷ [])
    ∷ (program_with [] ++ codes "      I = 1\n", at 3 MissingEnd (codes "MAIN") ∷ [])
    -- files that aren't one main program: an empty one, one without PROGRAM, and one of two units; and one in which the name of an
    -- intrinsic function is that of a variable
    ∷ ([], at 0 NotBuilt (codes "0") ∷ [])
    ∷ (codes "      I = 1\n" ++ codes "      END\n", at 0 NotBuilt (codes "0") ∷ [])
    ∷ (program_with [] ++ codes "      I = 1\n" ++ codes "      END\n", at 0 NotBuilt (codes "0") ∷ [])
    ∷ (program_with (codes "      MOD = 1\n" ++ codes "      J = MOD(1, 2)\n"), at 3 Redeclared (codes "MOD") ∷ [])
    ∷ []

-- a statement that has so many continuation lines
abbrev pub continued : ℕ → Begun
continued count = record { label = 0; text = []; continued = count }
