-- Free-form texts, and programs that aren't proper.
use Rattle.std.specs.Prelude.{ℕ, true, List, [], ◌∷◌, ◌++◌, map, codes}
use Rattle.text_base.specs.Trees.{binary, power, add, subtract, unary, minus, call, paren, none, more, bool, Expr}
use Rattle.tree90.specs.Tree.{Code, done, integer_object, FreeUnit, FreeProgram}
use Rattle.tree90.specs.FreeTokens.{Token, plain, quoted, unended}
use Rattle.tree90.specs.Proper.{IsProper}
use Rattle.worked_examples.specs.Read.{variable, number}
use Rattle.worked_examples.specs.Written.{assigned, marked, blank}

-- A text in which letters are of either case, blanks stand elsewhere than they are written, a constant has leading zeros, and
-- END and PROGRAM stand together.
abbrev pub loose_text : List ℕ
loose_text =
    codes "!HEAD\n"
    ++ codes "Program   t\n"
    ++ codes "implicit none\n"
    ++ codes "   SAVE\n"
    ++ codes "integer::i1\n"
    ++ codes "I1=-007+i1- 2\n"
    ++ codes "i1=Mod ((I1),5)**2\n"
    ++ codes "! BEFORE END\n"
    ++ codes "   \n"
    ++ codes "EndProgram T\n"

abbrev pub loose_value : Expr
loose_value = binary subtract (binary add (unary minus (number 7)) (variable (codes "I1"))) (number 2)

abbrev pub loose_power : Expr
loose_power = binary power (call (codes "MOD") (more (paren (variable (codes "I1"))) (more (number 5) none))) (number 2)

-- a program T of one unit, with some declarations and statements
abbrev pub program_t : List (List ℕ) → Code → FreeUnit
program_t names code = record { head = []; name = codes "T"; inner = []; declared = map integer_object names; code = code; tail = [] }

abbrev pub loose_program : FreeProgram
loose_program = record {
  units = record (program_t (codes "I1" ∷ []) (assigned [] (codes "I1") loose_value (assigned [] (codes "I1") loose_power done))) { head = marked (codes "HEAD") ∷ []; tail = marked (codes " BEFORE END") ∷ blank (codes "   ") ∷ [] } ∷ [];
  tail = [];
}

-- ---- tokens

abbrev word : List ℕ → Token
word w = plain w

-- lines with their tokens
abbrev pub token_lines : List (List ℕ × List Token)
token_lines =
    ([], [])
    -- words between dots
    ∷ (codes "A.AND.B", word (codes "A") ∷ word (codes ".AND.") ∷ word (codes "B") ∷ [])
    ∷ (codes "a .or. .not.b", word (codes "A") ∷ word (codes ".OR.") ∷ word (codes ".NOT.") ∷ word (codes "B") ∷ [])
    ∷ (codes "L=1.EQV.2", word (codes "L") ∷ word (codes "=") ∷ word (codes "1") ∷ word (codes ".EQV.") ∷ word (codes "2") ∷ [])
    -- character constants, of which one doesn't end
    ∷ (codes "'IT''S' // B", quoted (codes "IT'S") ∷ word (codes "//") ∷ word (codes "B") ∷ [])
    ∷ (codes "''''//''", quoted (codes "'") ∷ word (codes "//") ∷ quoted [] ∷ [])
    ∷ (codes "c=' a  b '", word (codes "C") ∷ word (codes "=") ∷ quoted (codes " a  b ") ∷ [])
    ∷ (codes "c=' a  b ''", word (codes "C") ∷ word (codes "=") ∷ unended ∷ [])
    -- operators and marks of two characters
    ∷ (codes "A**2<=B", word (codes "A") ∷ word (codes "**") ∷ word (codes "2") ∷ word (codes "<=") ∷ word (codes "B") ∷ [])
    ∷ (codes "i_1==-2", word (codes "I_1") ∷ word (codes "==") ∷ word (codes "-") ∷ word (codes "2") ∷ [])
    ∷ (codes "C(2:)(:)", word (codes "C") ∷ word (codes "(") ∷ word (codes "2") ∷ word (codes ":") ∷ word (codes ")") ∷ word (codes "(") ∷ word (codes ":") ∷ word (codes ")") ∷ [])
    -- blanks separate
    ∷ (codes "* * end program t", word (codes "*") ∷ word (codes "*") ∷ word (codes "END") ∷ word (codes "PROGRAM") ∷ word (codes "T") ∷ [])
    ∷ []

-- ---- programs that aren't proper

abbrev whole : List FreeUnit → FreeProgram
whole units = record { units = units; tail = [] }

-- the statement J = I
abbrev j_is_i : Code
j_is_i = assigned [] (codes "J") (variable (codes "I")) done

-- the unit with another name
abbrev named : List ℕ → FreeUnit → FreeUnit
named x u = record u { name = x }

-- none is proper
abbrev pub improper : List FreeProgram
improper =
    -- no main program, and two
    whole []
    ∷ whole (program_t [] done ∷ program_t [] done ∷ [])
    -- a name that is declared twice, and the program's own name
    ∷ whole (program_t (codes "I" ∷ codes "J" ∷ codes "I" ∷ []) j_is_i ∷ [])
    ∷ whole (program_t (codes "I" ∷ codes "J" ∷ codes "T" ∷ []) j_is_i ∷ [])
    -- names that aren't declared
    ∷ whole (program_t (codes "I" ∷ []) j_is_i ∷ [])
    ∷ whole (program_t (codes "J" ∷ []) j_is_i ∷ [])
    -- a logical value of an integer variable, and an intrinsic function whose name is declared
    ∷ whole (program_t (codes "J" ∷ []) (assigned [] (codes "J") (bool true) done) ∷ [])
    ∷ whole (program_t (codes "J" ∷ codes "ABS" ∷ []) (assigned [] (codes "J") (call (codes "ABS") (more (number 1) none)) done) ∷ [])
    -- an intrinsic function that has the program's name
    ∷ whole (named (codes "ABS") (program_t (codes "J" ∷ []) (assigned [] (codes "J") (call (codes "ABS") (more (number 1) none)) done)) ∷ [])
    ∷ []

abbrev pub IsImproper : FreeProgram → Type 0
IsImproper p = IsProper p → ⊥
