-- Expressions, by their characters without blanks, with their trees.
use Rattle.std.specs.Prelude.{ℕ, zero, suc, ◌||◌, true, false, List, [], ◌∷◌, ◌++◌, replicate, codes, Option, Some, None, if◌then◌else◌}
use Rattle.std.specs.Str.{bytes_eq}
use Rattle.text_base.specs.Pieces.{Piece, whole}
use Rattle.text_base.specs.Trees.{plus, minus, negation, power, times, over, add, subtract, concat, less, less_equal, equal, not_equal, greater, greater_equal, conjunction, disjunction, equivalence, nonequivalence, Expr, bool, text, call, substring, unary, binary, paren, none, more, absent, at}
use Rattle.text_base.specs.Values.{Kind, integers, logicals, characters}
use Rattle.text_base.specs.declared.refusal.Cause.TheVariants.{NotAStatement, Unsupported, ConstantRange, NameTooLong}
use Rattle.tree77.specs.Lexemes.{Part}
use Rattle.worked_examples.specs.Read.{variable, number}
use Rattle.worked_examples.specs.Statements.{outside}

abbrev a : Expr
a = variable (codes "A")

abbrev b : Expr
b = variable (codes "B")

abbrev c : Expr
c = variable (codes "C")

-- A in so many parentheses, and its tree
abbrev deep_text : ℕ → List ℕ
deep_text n = replicate n 40 ++ 65 ∷ replicate n 41

abbrev deep : ℕ → Expr
deep zero = a
deep (suc n) = paren (deep n)

abbrev pub expressions : List (List Piece × Expr)
expressions =
    -- each operator
    (outside (codes "A**B"), binary power a b)
    ∷ (outside (codes "A*B"), binary times a b)
    ∷ (outside (codes "A/B"), binary over a b)
    ∷ (outside (codes "A+B"), binary add a b)
    ∷ (outside (codes "A-B"), binary subtract a b)
    ∷ (outside (codes "A//B"), binary concat a b)
    ∷ (outside (codes "A.LT.B"), binary less a b)
    ∷ (outside (codes "A.LE.B"), binary less_equal a b)
    ∷ (outside (codes "A.EQ.B"), binary equal a b)
    ∷ (outside (codes "A.NE.B"), binary not_equal a b)
    ∷ (outside (codes "A.GT.B"), binary greater a b)
    ∷ (outside (codes "A.GE.B"), binary greater_equal a b)
    ∷ (outside (codes "A.AND.B"), binary conjunction a b)
    ∷ (outside (codes "A.OR.B"), binary disjunction a b)
    ∷ (outside (codes "A.EQV.B"), binary equivalence a b)
    ∷ (outside (codes "A.NEQV.B"), binary nonequivalence a b)
    -- signs and .NOT.
    ∷ (outside (codes "+A"), unary plus a)
    ∷ (outside (codes "-A"), unary minus a)
    ∷ (outside (codes ".NOT.A"), unary negation a)
    -- how operators group
    ∷ (outside (codes "A**B**C"), binary power a (binary power b c))
    ∷ (outside (codes "A-B-C"), binary subtract (binary subtract a b) c)
    ∷ (outside (codes "A/B*C"), binary times (binary over a b) c)
    ∷ (outside (codes "-A**2+B*C"), binary add (unary minus (binary power a (number 2))) (binary times b c))
    ∷ (outside (codes "-A+B"), binary add (unary minus a) b)
    ∷ (outside (codes "A//B.EQ.C"), binary equal (binary concat a b) c)
    ∷ (outside (codes "A+B.LT.C*A"), binary less (binary add a b) (binary times c a))
    ∷ (outside (codes ".NOT.A.EQ.B"), unary negation (binary equal a b))
    ∷ (outside (codes "A.OR.B.AND.C"), binary disjunction a (binary conjunction b c))
    ∷ (outside (codes "A.EQV..NOT.B.OR.C"), binary equivalence a (binary disjunction (unary negation b) c))
    ∷ (outside (codes "A.NEQV.B.EQV.C"), binary equivalence (binary nonequivalence a b) c)
    -- parentheses
    ∷ (outside (codes "(A+B)*C"), binary times (paren (binary add a b)) c)
    ∷ (outside (codes "((A))"), paren (paren a))
    ∷ (outside (deep_text 200), deep 200)
    -- array elements and references
    ∷ (outside (codes "A(1)"), call (codes "A") (more (number 1) none))
    ∷ (outside (codes "A(B,C+1)"), call (codes "A") (more b (more (binary add c (number 1)) none)))
    ∷ (outside (codes "A()"), call (codes "A") none)
    -- substrings
    ∷ (outside (codes "A(2:5)"), substring a (at (number 2)) (at (number 5)))
    ∷ (outside (codes "A(:)"), substring a absent absent)
    ∷ (outside (codes "A(B)(:3)"), substring (call (codes "A") (more b none)) absent (at (number 3)))
    -- constants
    ∷ (outside (codes "00017"), number 17)
    ∷ (outside (codes "2147483647"), number 2147483647)
    ∷ (outside (codes ".TRUE."), bool true)
    ∷ (outside (codes ".FALSE."), bool false)
    ∷ (outside (codes "1.EQ.2"), binary equal (number 1) (number 2))
    ∷ (whole (codes "'it''s'") ∷ [], text (codes "it's"))
    ∷ (whole (codes "' a '") ∷ outside (codes "//") ++ whole (codes "'b'") ∷ [], binary concat (text (codes " a ")) (text (codes "b")))
    ∷ []

-- expressions with their types, where I and MOD are integers
abbrev pub i_is_integer : List ℕ → Option Kind
i_is_integer x = if bytes_eq x (codes "I") || bytes_eq x (codes "MOD") then Some integers else None

abbrev i : Expr
i = variable (codes "I")

abbrev pub typed_expressions : List (Expr × Option Kind)
typed_expressions =
    (binary add (unary minus i) (paren (number 1)), Some integers)
    ∷ (binary less i (number 1), Some logicals)
    ∷ (binary conjunction (binary less i (number 1)) (bool true), Some logicals)
    ∷ (binary equal (text (codes "A")) (text (codes "AB")), Some logicals)
    ∷ (binary concat (text (codes "A")) (text (codes "B")), Some characters)
    -- intrinsic functions; one whose name is a variable's, one of too few arguments, and one of another type
    ∷ (call (codes "DIM") (more i (more (number 2) none)), Some integers)
    ∷ (call (codes "MIN") (more i (more (number 2) (more i none))), Some integers)
    ∷ (call (codes "CHAR") (more i none), Some characters)
    ∷ (call (codes "LEN") (more (text (codes "A")) none), Some integers)
    ∷ (call (codes "LGE") (more (text (codes "A")) (more (text (codes "B")) none)), Some logicals)
    ∷ (call (codes "MOD") (more i (more (number 2) none)), None)
    ∷ (call (codes "DIM") (more i none), None)
    ∷ (call (codes "LEN") (more i none), None)
    -- a name that is no variable's, an array element, a substring, and operands of other types
    ∷ (variable (codes "J"), None)
    ∷ (call (codes "J") (more i none), None)
    ∷ (substring i absent absent, None)
    ∷ (binary add i (bool true), None)
    ∷ (binary less (text (codes "A")) i, None)
    ∷ (unary negation i, None)
    ∷ []

abbrev not_a_statement : List ℕ → Part
not_a_statement shown = record { cause = NotAStatement; shown = shown }

abbrev unsupported : List ℕ → Part
unsupported shown = record { cause = Unsupported; shown = shown }

-- what is refused, and why: the part of the lowest cause, or the first characters
abbrev pub refused_expressions : List (List Piece × Part)
refused_expressions =
    ([], not_a_statement [])
    ∷ (outside (codes "A+*B"), not_a_statement (codes "A+*B"))
    ∷ (outside (codes "A*-B"), not_a_statement (codes "A*-B"))
    ∷ (outside (codes "A.LT.B.LT.C"), not_a_statement (codes "A.LT.B.LT.C"))
    ∷ (outside (codes ".NOT..NOT.ABC"), not_a_statement (codes ".NOT..NOT.AB"))
    ∷ (outside (codes "(A"), not_a_statement (codes "(A"))
    ∷ (outside (codes "A(1:2)(3:4)"), not_a_statement (codes "A(1:2)(3:4)"))
    ∷ (outside (codes "1.5"), unsupported (codes "CONSTANT"))
    ∷ (outside (codes "1E3+A"), unsupported (codes "CONSTANT"))
    ∷ (outside (codes "(1,2)"), unsupported (codes "CONSTANT"))
    ∷ (outside (codes "3HABC"), unsupported (codes "CONSTANT"))
    ∷ (outside (codes "F(A,*10)"), unsupported (codes "RETURN"))
    ∷ (outside (deep_text 201), unsupported (codes "DEPTH"))
    ∷ (outside (codes "2147483648"), record { cause = ConstantRange; shown = codes "2147483648" })
    ∷ (outside (codes "12345678901234"), record { cause = ConstantRange; shown = codes "123456789012" })
    ∷ (outside (codes "2147483648+1.5"), unsupported (codes "CONSTANT"))
    ∷ (outside (codes "A23456789_123456789_123456789_12"), record { cause = NameTooLong; shown = codes "A23456789_123456789_123456789_1" })
    ∷ []
