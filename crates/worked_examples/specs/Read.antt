-- What the sources are read into.
use Rattle.std.specs.Prelude.{ℕ, pos, true, false, List, [], ◌∷◌, ◌++◌, codes, Some, None}
use Rattle.text_base.specs.Cards.{Card, Comment}
use Rattle.text_base.specs.Trees.{Expr, int, name, call, binary, paren, none, more, power, times, add, subtract, assign, stop}
use Rattle.text_base.specs.declared.refusal.Place.{Place}
use Rattle.text_base.specs.Values.{integers}
use Rattle.implicit_types.specs.Typing.{Entity}
use Rattle.implicit_types.specs.declared.entity.EntityKind.{EntityKind}
use Rattle.implicit_types.specs.declared.entity.EntityKind.TheVariants.{Variable, Intrinsic}
use Rattle.program77.specs.Source.{IsSource}
use Rattle.program77.specs.Tree.{simple, continue, Code, done, item, SourceProgram}
use Rattle.worked_examples.specs.Sources.{blanks, zeros}

-- a line of the one file
abbrev pub at_line : ℕ → Place
at_line n = record { file = 0; line = n }

-- a statement without a label and without kept text, at a line, whose characters are so many
abbrev pub plain_card : ℕ → ℕ → List ℕ → Card
plain_card line count text = record { label = 0; text = text; kept = zeros count; place = at_line line }

-- the statements of the whole program: columns 7 to 72 of their lines
abbrev pub whole_cards : List Card
whole_cards =
    plain_card 2 66 (codes "Program T" ++ blanks 57)
    ∷ plain_card 4 66 (codes "I = 3 - 2" ++ blanks 57)
    ∷ plain_card 6 132 (codes "J = I" ++ blanks 61 ++ codes " + 4" ++ blanks 62)
    ∷ plain_card 9 66 (codes "M1 = J" ++ blanks 58 ++ codes "+1")
    ∷ plain_card 11 66 (codes "CONTINUE" ++ blanks 58)
    ∷ plain_card 12 66 (codes "STOP" ++ blanks 62)
    ∷ plain_card 14 66 (codes "END" ++ blanks 63)
    ∷ []

-- its comments, each with the number of statements that stand whole before it
abbrev pub whole_comments : List Comment
whole_comments =
    record { marked = true; text = codes " HEAD"; before = 0 }
    ∷ record { marked = true; text = codes "AFTER"; before = 1 }
    ∷ record { marked = false; text = codes "  "; before = 2 }
    ∷ record { marked = true; text = codes "INSIDE"; before = 2 }
    ∷ record { marked = true; text = codes " BEFORE CONTINUE"; before = 4 }
    ∷ record { marked = true; text = blanks 71 ++ codes "X"; before = 6 }
    ∷ record { marked = true; text = codes "AFTER END"; before = 7 }
    ∷ []

abbrev pub variable : List ℕ → Expr
variable x = name x

abbrev pub number : ℕ → Expr
number n = int (pos n)

-- an assignment at a line, before other statements
abbrev pub assigned : ℕ → List ℕ → Expr → Code → Code
assigned line x value rest = item 0 (at_line line) (simple (assign (name x) value)) rest

-- a variable of integers, and an intrinsic function that gives one
abbrev pub entity_as : EntityKind → List ℕ → Entity
entity_as kind x = record { name = x; kind = kind; scalar = Some integers; length = None; value = None }

abbrev pub an_integer : List ℕ → Entity
an_integer = entity_as Variable

-- a program of one main program T, whose first statement is at the first line here and whose END is at the last, with these
-- entities
abbrev pub program_t : ℕ → List Entity → Code → ℕ → SourceProgram
program_t first entities code last = record { units = record { name = codes "T"; place = at_line first; entities = entities; code = code; end = at_line last } ∷ [] }

abbrev pub whole_program : SourceProgram
whole_program =
    program_t 2
    (an_integer (codes "I") ∷ an_integer (codes "J") ∷ an_integer (codes "M1") ∷ [])
    (assigned 4 (codes "I") (binary subtract (number 3) (number 2))
    (assigned 6 (codes "J") (binary add (variable (codes "I")) (number 4))
    (assigned 9 (codes "M1") (binary add (variable (codes "J")) (number 1))
    (item 0 (at_line 11) continue
    (item 0 (at_line 12) (simple stop)
    done)))))
    14

abbrev pub short_program : SourceProgram
short_program = program_t 1 (an_integer (codes "I") ∷ []) (assigned 2 (codes "I") (number 1) done) 3

abbrev pub undefined_program : SourceProgram
undefined_program = program_t 1 (an_integer (codes "I") ∷ an_integer (codes "J") ∷ an_integer (codes "K") ∷ []) (assigned 2 (codes "I") (number 1) (assigned 3 (codes "J") (variable (codes "K")) done)) 4

abbrev pub overflow_program : SourceProgram
overflow_program =
    program_t 1
    (an_integer (codes "I") ∷ an_integer (codes "J") ∷ [])
    (assigned 2 (codes "I") (binary add (number 2147483646) (number 1))
    (assigned 3 (codes "J") (binary add (variable (codes "I")) (number 1))
    done))
    4

-- MOD((I + 2) * 3, 4) ** 2
abbrev pub product_value : Expr
product_value = binary power (call (codes "MOD") (more (binary times (paren (binary add (variable (codes "I")) (number 2))) (number 3)) (more (number 4) none))) (number 2)

abbrev pub product_program : SourceProgram
product_program = program_t 1 (an_integer (codes "I") ∷ an_integer (codes "J") ∷ entity_as Intrinsic (codes "MOD") ∷ []) (assigned 2 (codes "I") (number 7) (assigned 3 (codes "J") product_value done)) 4

-- a sum whose left operand passes the greatest integer, and whose right operand has no value
abbrev pub order_program : SourceProgram
order_program = program_t 1 (an_integer (codes "J") ∷ an_integer (codes "K") ∷ []) (assigned 2 (codes "J") (binary add (binary add (number 2147483647) (number 1)) (variable (codes "K"))) done) 3

-- the bytes are the source of no program
abbrev pub IsNoSource : List ℕ → Type 0
IsNoSource bytes = (p : SourceProgram) → IsSource 0 bytes p → ⊥
