-- The types of expressions, and which types the operands of operators and the arguments of functions may have (X3.9 sections 6
-- and 15.10). A name that is real by the rules on types is refused for that alone, so its type is none and may be any.
use Rattle.std.specs.Prelude.{ℕ, Bool, true, not, ◌&&◌, ◌||◌, ◌==◌, nat_le, List, [], ◌∷◌, length, Option, Some, None}
use Rattle.std.specs.List.{list_all}
use Rattle.text_base.specs.Values.{Kind, integers, logicals, characters}
use Rattle.text_base.specs.Trees.{Expr, int, bool, text, name, call, substring, unary, binary, paren, Exprs, none, more}
use Rattle.text_base.specs.declared.operation.Op.{Op}
use Rattle.text_base.specs.declared.operation.Op.TheVariants as op
use Rattle.text_base.specs.Operations.{is_kind}
use Rattle.text_base.specs.Operators.{unary_op, binary_op}
use Rattle.names77.specs.Known.{Known, kind_in}

abbrev pub may_be : Option Kind → Kind → Bool
may_be None k = true
may_be (Some l) k = is_kind l k

abbrev pub may_agree : Option Kind → Option Kind → Bool
may_agree a None = true
may_agree a (Some k) = may_be a k

-- ---- what an operation takes and gives

-- the type of all its operands; a relation takes two of one type, integers or characters
pub data Operands : Type 0 where
  of_kind : Kind → Operands
  of_one_kind : Operands

abbrev pub operands_of : Op → Operands
operands_of op.Concat = of_kind characters
operands_of op.Lt = of_one_kind
operands_of op.Le = of_one_kind
operands_of op.Eq = of_one_kind
operands_of op.Ne = of_one_kind
operands_of op.Gt = of_one_kind
operands_of op.Ge = of_one_kind
operands_of op.Not = of_kind logicals
operands_of op.And = of_kind logicals
operands_of op.Or = of_kind logicals
operands_of op.Eqv = of_kind logicals
operands_of op.Neqv = of_kind logicals
operands_of op.Len = of_kind characters
operands_of op.Index = of_kind characters
operands_of op.Ichar = of_kind characters
operands_of op.Lge = of_kind characters
operands_of op.Lgt = of_kind characters
operands_of op.Lle = of_kind characters
operands_of op.Llt = of_kind characters
operands_of _ = of_kind integers

-- how many it takes
pub data Count : Type 0 where
  one : Count
  two : Count
  two_or_more : Count

abbrev pub count_of : Op → Count
count_of op.Positive = one
count_of op.Negative = one
count_of op.Not = one
count_of op.Abs = one
count_of op.Iabs = one
count_of op.Max = two_or_more
count_of op.Max0 = two_or_more
count_of op.Min = two_or_more
count_of op.Min0 = two_or_more
count_of op.Len = one
count_of op.Char = one
count_of op.Ichar = one
count_of _ = two

abbrev pub is_count : Count → ℕ → Bool
is_count one n = n == 1
is_count two n = n == 2
is_count two_or_more n = nat_le 2 n

abbrev pub may_all_be : Kind → List (Option Kind) → Bool
may_all_be k kinds = list_all (λ o. may_be o k) kinds

abbrev pub may_be_operands : Operands → List (Option Kind) → Bool
may_be_operands (of_kind k) kinds = may_all_be k kinds
may_be_operands of_one_kind kinds = may_all_be integers kinds || may_all_be characters kinds

-- operands of these types, each of which may be unknown, fit
abbrev pub takes : Op → List (Option Kind) → Bool
takes o kinds = is_count (count_of o) (length kinds) && may_be_operands (operands_of o) kinds

-- the type that an operator gives
abbrev pub operator_kind : Op → Kind
operator_kind op.Concat = characters
operator_kind op.Lt = logicals
operator_kind op.Le = logicals
operator_kind op.Eq = logicals
operator_kind op.Ne = logicals
operator_kind op.Gt = logicals
operator_kind op.Ge = logicals
operator_kind op.Not = logicals
operator_kind op.And = logicals
operator_kind op.Or = logicals
operator_kind op.Eqv = logicals
operator_kind op.Neqv = logicals
operator_kind _ = integers

-- ---- the types of expressions

abbrev pub kind_of : Known → Expr → Option Kind
kind_of k (int v) = Some integers
kind_of k (bool b) = Some logicals
kind_of k (text t) = Some characters
kind_of k (name x) = kind_in k x
kind_of k (call x es) = kind_in k x
kind_of k (substring a from to) = Some characters
kind_of k (unary o a) = Some (operator_kind (unary_op o))
kind_of k (binary o a b) = Some (operator_kind (binary_op o))
kind_of k (paren a) = kind_of k a

abbrev pub kinds_of : Known → Exprs → List (Option Kind)
kinds_of k none = []
kinds_of k (more e es) = kind_of k e ∷ kinds_of k es

abbrev pub is_apart : Known → Kind → Expr → Bool
is_apart k kind e = not (may_be (kind_of k e) kind)
