-- What is written for the whole program.
use Rattle.std.specs.Prelude.{ℕ, true, false, List, [], ◌∷◌, ◌++◌, codes}
use Rattle.text_base.specs.Remarks.{Remark}
use Rattle.text_base.specs.Trees.{binary, add, subtract, Expr, name, assign, stop}
use Rattle.text_base.specs.Values.{integers}
use Rattle.program77.specs.Layout.{Layout, local}
use Rattle.tree90.specs.Tree.{simple, Code, done, item, integer_object, FreeProgram}
use Rattle.project_set.specs.Positions.{Position, before_header, after_header, before_entry, at_end, Placed}
use Rattle.worked_examples.specs.Sources.{blanks}
use Rattle.worked_examples.specs.Read.{variable, number}

-- the text of the Fortran 90 program
abbrev pub whole_text : List ℕ
whole_text =
    codes "! HEAD\n"
    ++ codes "PROGRAM T\n"
    ++ codes "!AFTER\n"
    ++ codes "  IMPLICIT NONE\n"
    ++ codes "  SAVE\n"
    ++ codes "  INTEGER :: I\n"
    ++ codes "  INTEGER :: J\n"
    ++ codes "  INTEGER :: M1\n"
    ++ codes "  I = 3 - 2\n"
    ++ codes "  \n"
    ++ codes "!INSIDE\n"
    ++ codes "  J = I + 4\n"
    ++ codes "  M1 = J + 1\n"
    ++ codes "! BEFORE CONTINUE\n"
    ++ codes "  STOP\n"
    ++ codes "!" ++ blanks 71 ++ codes "X\n"
    ++ codes "END PROGRAM T\n"
    ++ codes "!AFTER END\n"

-- the map
abbrev pub whole_map : List ℕ
whole_map = codes "T.I 0 1 I T:I 1\n" ++ codes "T.J 0 1 I T:J 1\n" ++ codes "T.M1 0 1 I T:M1 1\n"

-- the report
abbrev pub whole_report : List ℕ
whole_report = codes "UNITS 1\n" ++ codes "WEBS 0\n" ++ codes "KEPT 0\n" ++ codes "ARRAYS 0\n" ++ codes "CUT 1\n"

-- the text that is written for the program with a product
abbrev pub product_text : List ℕ
product_text =
    codes "PROGRAM T\n"
    ++ codes "  IMPLICIT NONE\n"
    ++ codes "  SAVE\n"
    ++ codes "  INTEGER :: I\n"
    ++ codes "  INTEGER :: J\n"
    ++ codes "  I = 7\n"
    ++ codes "  J = MOD((I + 2) * 3, 4) ** 2\n"
    ++ codes "END PROGRAM T\n"

-- ---- as a tree

abbrev pub marked : List ℕ → Remark
marked text = record { marked = true; text = text }

abbrev pub blank : List ℕ → Remark
blank text = record { marked = false; text = text }

-- an assignment behind some comments, before other statements
abbrev pub assigned : List Remark → List ℕ → Expr → Code → Code
assigned remarks x value rest = item remarks (simple (assign (name x) value)) rest

abbrev pub whole_written : FreeProgram
whole_written = record {
  units = record {
    head = marked (codes " HEAD") ∷ [];
    name = codes "T";
    inner = marked (codes "AFTER") ∷ [];
    declared = integer_object (codes "I") ∷ integer_object (codes "J") ∷ integer_object (codes "M1") ∷ [];
    code =
        assigned [] (codes "I") (binary subtract (number 3) (number 2))
        (assigned (blank (codes "  ") ∷ marked (codes "INSIDE") ∷ []) (codes "J") (binary add (variable (codes "I")) (number 4))
        (assigned [] (codes "M1") (binary add (variable (codes "J")) (number 1))
        (item (marked (codes " BEFORE CONTINUE") ∷ []) (simple stop)
        done)));
    tail = marked (blanks 71 ++ codes "X") ∷ [];
  } ∷ [];
  tail = marked (codes "AFTER END") ∷ [];
}

-- ---- positions

abbrev pub placed : Remark → Position → Placed
placed remark position = record { remark = remark; position = position }

-- The comments with their positions. The entries are, from 0 on, the three assignments, STOP and END.
abbrev pub whole_positions : List Placed
whole_positions =
    placed (marked (codes " HEAD")) (before_header 0)
    ∷ placed (marked (codes "AFTER")) (after_header 0)
    ∷ placed (blank (codes "  ")) (before_entry 0 1)
    ∷ placed (marked (codes "INSIDE")) (before_entry 0 1)
    ∷ placed (marked (codes " BEFORE CONTINUE")) (before_entry 0 3)
    ∷ placed (marked (blanks 71 ++ codes "X")) (before_entry 0 4)
    ∷ placed (marked (codes "AFTER END")) at_end
    ∷ []

-- ---- storage

-- three sequences of one place each, and an entity in each
abbrev pub whole_layout : Layout
whole_layout = record {
  units = codes "T" ∷ [];
  sequences =
      record { home = local 0 (codes "I"); has_text = false; count = 1 }
      ∷ record { home = local 0 (codes "J"); has_text = false; count = 1 }
      ∷ record { home = local 0 (codes "M1"); has_text = false; count = 1 }
      ∷ [];
  entities =
      record { unit = 0; name = codes "I"; sequence = 0; offset = 0; kind = integers; count = 1 }
      ∷ record { unit = 0; name = codes "J"; sequence = 1; offset = 0; kind = integers; count = 1 }
      ∷ record { unit = 0; name = codes "M1"; sequence = 2; offset = 0; kind = integers; count = 1 }
      ∷ [];
}
