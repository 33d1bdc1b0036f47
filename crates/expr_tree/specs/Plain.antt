-- The declared tree of an expression as the plain one.
use Rattle.std.specs.Prelude.{List, [], ◌∷◌, Option, Some, None}
use Rattle.text_base.specs.Trees as t
use Rattle.expr_tree.specs.declared.tree.UnaryOp.{UnaryOp}
use Rattle.expr_tree.specs.declared.tree.UnaryOp.TheVariants as sign
use Rattle.expr_tree.specs.declared.tree.BinaryOp.{BinaryOp}
use Rattle.expr_tree.specs.declared.tree.BinaryOp.TheVariants as operator
use Rattle.expr_tree.specs.declared.tree.Expr.{Expr, fold-Expr}
use Rattle.expr_tree.specs.declared.tree.Expr.TheOpen.{Expr-F}

abbrev pub unary_of : UnaryOp → t.UnaryOp
unary_of sign.Plus = t.plus
unary_of sign.Minus = t.minus
unary_of sign.Not = t.negation

abbrev pub binary_of : BinaryOp → t.BinaryOp
binary_of operator.Power = t.power
binary_of operator.Times = t.times
binary_of operator.Over = t.over
binary_of operator.Plus = t.add
binary_of operator.Minus = t.subtract
binary_of operator.Concat = t.concat
binary_of operator.Lt = t.less
binary_of operator.Le = t.less_equal
binary_of operator.Eq = t.equal
binary_of operator.Ne = t.not_equal
binary_of operator.Gt = t.greater
binary_of operator.Ge = t.greater_equal
binary_of operator.And = t.conjunction
binary_of operator.Or = t.disjunction
binary_of operator.Eqv = t.equivalence
binary_of operator.Neqv = t.nonequivalence

abbrev pub exprs_of : List t.Expr → t.Exprs
exprs_of [] = t.none
exprs_of (x ∷ xs) = t.more x (exprs_of xs)

abbrev pub bound_of : Option t.Expr → t.Bound
bound_of None = t.absent
bound_of (Some x) = t.at x

abbrev pub expr_step : Expr-F t.Expr → t.Expr
expr_step (Expr-F.Int v) = t.int v
expr_step (Expr-F.Bool b) = t.bool b
expr_step (Expr-F.Text characters) = t.text characters
expr_step (Expr-F.Name x) = t.name x
expr_step (Expr-F.Call f xs) = t.call f (exprs_of xs)
expr_step (Expr-F.Substring a from to) = t.substring a (bound_of from) (bound_of to)
expr_step (Expr-F.Unary op a) = t.unary (unary_of op) a
expr_step (Expr-F.Binary op a b) = t.binary (binary_of op) a b
expr_step (Expr-F.Paren a) = t.paren a

unfoldable pub expr_of : Expr → t.Expr
expr_of = fold-Expr t.Expr expr_step
