-- Which operation an operator is, and which an intrinsic function (X3.9 section 15.10; ISO/IEC 1539:1991 section 13).
use Rattle.std.specs.Prelude.{ℕ, List, [], ◌∷◌, codes, Option, Some, None, if◌then◌else◌}
use Rattle.std.specs.Str.{bytes_eq}
use Rattle.text_base.specs.Trees.{UnaryOp, plus, minus, negation, BinaryOp, power, times, over, add, subtract, concat, less, less_equal, equal, not_equal, greater, greater_equal, conjunction, disjunction, equivalence, nonequivalence}
use Rattle.text_base.specs.declared.operation.Op.{Op}
use Rattle.text_base.specs.declared.operation.Op.TheVariants as op

abbrev pub unary_op : UnaryOp → Op
unary_op plus = op.Positive
unary_op minus = op.Negative
unary_op negation = op.Not

abbrev pub binary_op : BinaryOp → Op
binary_op power = op.Power
binary_op times = op.Times
binary_op over = op.Over
binary_op add = op.Plus
binary_op subtract = op.Minus
binary_op concat = op.Concat
binary_op less = op.Lt
binary_op less_equal = op.Le
binary_op equal = op.Eq
binary_op not_equal = op.Ne
binary_op greater = op.Gt
binary_op greater_equal = op.Ge
binary_op conjunction = op.And
binary_op disjunction = op.Or
binary_op equivalence = op.Eqv
binary_op nonequivalence = op.Neqv

-- the intrinsic functions by their names
abbrev pub intrinsics : List (List ℕ × Op)
intrinsics =
    (codes "ABS", op.Abs)
    ∷ (codes "IABS", op.Iabs)
    ∷ (codes "MOD", op.Mod)
    ∷ (codes "SIGN", op.Sign)
    ∷ (codes "ISIGN", op.Isign)
    ∷ (codes "DIM", op.Dim)
    ∷ (codes "IDIM", op.Idim)
    ∷ (codes "MAX", op.Max)
    ∷ (codes "MAX0", op.Max0)
    ∷ (codes "MIN", op.Min)
    ∷ (codes "MIN0", op.Min0)
    ∷ (codes "LEN", op.Len)
    ∷ (codes "INDEX", op.Index)
    ∷ (codes "CHAR", op.Char)
    ∷ (codes "ICHAR", op.Ichar)
    ∷ (codes "LGE", op.Lge)
    ∷ (codes "LGT", op.Lgt)
    ∷ (codes "LLE", op.Lle)
    ∷ (codes "LLT", op.Llt)
    ∷ []

-- what a name stands for in a table
abbrev pub named_in : {A : Type 0} → List (List ℕ × A) → List ℕ → Option A
named_in [] x = None
named_in ((y, a) ∷ table) x = if bytes_eq y x then Some a else named_in table x

-- the operation of an intrinsic function
unfoldable pub intrinsic : List ℕ → Option Op
intrinsic = named_in intrinsics
