-- The one text of a Fortran 90 program (ISO/IEC 1539:1991 section 3.3). A program that can be written has no line of
-- more than 132 characters, so none is continued.
use Rattle.std.specs.Prelude.{ℕ, ◌*◌, Bool, true, false, ◌==◌, List, [], ◌∷◌, ◌++◌, min, replicate, codes, flat_map, if◌then◌else◌}
use Rattle.std.specs.Fmt.{signed_decimal}
use Rattle.text_base.specs.Trees.{UnaryOp, plus, minus, negation, BinaryOp, power, times, over, add, subtract, concat, less, less_equal, equal, not_equal, greater, greater_equal, conjunction, disjunction, equivalence, nonequivalence, Expr, int, bool, text, name, call, substring, unary, binary, paren, Exprs, none, more, Bound, absent, at, Action, assign, stop}
use Rattle.text_base.specs.Remarks.{remarks_text}
use Rattle.text_base.specs.declared.limits.TheConstants.{MOST_INDENTED}
use Rattle.tree90.specs.Tree.{Stmt, simple, Code, done, item, Declared, integer_object, FreeUnit, FreeProgram}

-- a line has two blanks for each level, up to a limit, and ends with LF
abbrev pub line : ℕ → List ℕ → List ℕ
line level words = replicate (min (2 * level) MOST_INDENTED) 32 ++ words ++ 10 ∷ []

-- signs, .NOT. and operators (ISO/IEC 1539:1991 section 7.1.1)
abbrev pub sign_text : UnaryOp → List ℕ
sign_text plus = codes "+"
sign_text minus = codes "-"
sign_text negation = codes ".NOT. "

abbrev pub operator_text : BinaryOp → List ℕ
operator_text power = codes "**"
operator_text times = codes "*"
operator_text over = codes "/"
operator_text add = codes "+"
operator_text subtract = codes "-"
operator_text concat = codes "//"
operator_text less = codes "<"
operator_text less_equal = codes "<="
operator_text equal = codes "=="
operator_text not_equal = codes "/="
operator_text greater = codes ">"
operator_text greater_equal = codes ">="
operator_text conjunction = codes ".AND."
operator_text disjunction = codes ".OR."
operator_text equivalence = codes ".EQV."
operator_text nonequivalence = codes ".NEQV."

abbrev pub logical_text : Bool → List ℕ
logical_text true = codes ".TRUE."
logical_text false = codes ".FALSE."

-- an apostrophe in a character constant is doubled (ISO/IEC 1539:1991 section 4.3.2.1)
abbrev pub doubled : List ℕ → List ℕ
doubled cs = flat_map (λ c. if c == 39 then 39 ∷ 39 ∷ [] else c ∷ []) cs

-- Binary operators stand between blanks, signs have none, .NOT. has one behind it. A comma is followed by a blank.
abbrev mutual
  pub expr_text : Expr → List ℕ
  expr_text (int v) = signed_decimal v
  expr_text (bool b) = logical_text b
  expr_text (text cs) = codes "'" ++ doubled cs ++ codes "'"
  expr_text (name x) = x
  expr_text (call f xs) = f ++ codes "(" ++ exprs_text xs ++ codes ")"
  expr_text (substring a from to) = expr_text a ++ codes "(" ++ bound_text from ++ codes ":" ++ bound_text to ++ codes ")"
  expr_text (unary op a) = sign_text op ++ expr_text a
  expr_text (binary op a b) = expr_text a ++ codes " " ++ operator_text op ++ codes " " ++ expr_text b
  expr_text (paren a) = codes "(" ++ expr_text a ++ codes ")"

  pub exprs_text : Exprs → List ℕ
  exprs_text none = []
  exprs_text (more a rest) = expr_text a ++ others_text rest

  -- the expressions behind the first
  pub others_text : Exprs → List ℕ
  others_text none = []
  others_text (more a rest) = codes ", " ++ expr_text a ++ others_text rest

  pub bound_text : Bound → List ℕ
  bound_text absent = []
  bound_text (at a) = expr_text a

abbrev pub action_text : Action → List ℕ
action_text (assign d e) = expr_text d ++ codes " = " ++ expr_text e
action_text stop = codes "STOP"

abbrev pub stmt_text : ℕ → Stmt → List ℕ
stmt_text level (simple a) = line level (action_text a)

abbrev pub code_text : ℕ → Code → List ℕ
code_text level done = []
code_text level (item remarks s rest) = remarks_text remarks ++ stmt_text level s ++ code_text level rest

abbrev pub declared_text : Declared → List ℕ
declared_text (integer_object x) = line 1 (codes "INTEGER :: " ++ x)

-- the comments before the header, the header, the comments after it, the fixed lines, the declarations, the statements,
-- the comments before the END line, and the END line of a unit
abbrev pub unit_text : FreeUnit → List ℕ
unit_text u =
    remarks_text u.head
    ++ line 0 (codes "PROGRAM " ++ u.name)
    ++ remarks_text u.inner
    ++ line 1 (codes "IMPLICIT NONE")
    ++ line 1 (codes "SAVE")
    ++ flat_map declared_text u.declared
    ++ code_text 1 u.code
    ++ remarks_text u.tail
    ++ line 0 (codes "END PROGRAM " ++ u.name)

abbrev pub printed : FreeProgram → List ℕ
printed p = flat_map unit_text p.units ++ remarks_text p.tail
