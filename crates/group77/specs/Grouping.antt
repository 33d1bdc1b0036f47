-- The reading of operands and operators as a function: the tree that they group into.
use Rattle.std.specs.Prelude.{ℕ, zero, suc, Bool, true, false, List, [], ◌∷◌, length, Option, Some, None, if◌then◌else◌}
use Rattle.std.specs.Option.{option_map, option_and_then}
use Rattle.text_base.specs.Trees.{UnaryOp, plus, minus, negation, BinaryOp, power, add, Expr, unary, binary}
use Rattle.tree77.specs.Expressions.{Symbol, operand, operator, not_sign, is_product, is_sum, is_concat, is_relation, is_conjunction, is_disjunction, is_equivalence}

-- what has been read, and the symbols behind it
abbrev pub Reader : Type 0
Reader = List Symbol → Option (Expr × List Symbol)

-- the operator that stands here, if it passes, and the symbols behind it
abbrev pub operator_if : (BinaryOp → Bool) → BinaryOp → List Symbol → Option (BinaryOp × List Symbol)
operator_if test o rest = if test o then Some (o, rest) else None

abbrev pub behind_operator : (BinaryOp → Bool) → List Symbol → Option (BinaryOp × List Symbol)
behind_operator test (operator o ∷ rest) = operator_if test o rest
behind_operator test _ = None

abbrev pub is_power : BinaryOp → Bool
is_power power = true
is_power _ = false

-- the operand that stands here
abbrev pub read_operand : Reader
read_operand (operand x ∷ rest) = Some (x, rest)
read_operand _ = None

-- what was read, and its power where the operator for one stands here
abbrev pub with_power : Expr → BinaryOp → Option (Expr × List Symbol) → List Symbol → Option (Expr × List Symbol)
with_power x o exponent ts = if is_power o then option_map (λ p. (binary o x p.0, p.1)) exponent else Some (x, ts)

-- an operand, or an operand and a power of it
unfoldable pub read_factor : Reader
read_factor (operand x ∷ operator o ∷ rest) = with_power x o (read_factor rest) (operator o ∷ rest)
read_factor (operand x ∷ ts) = Some (x, ts)
read_factor _ = None

-- operands with operators of one sort, from the left, with so many turns
abbrev pub more_at : Reader → (Expr → Reader) → Expr → List Symbol → Option (BinaryOp × List Symbol) → Option (Expr × List Symbol)
more_at next go_on x rest None = Some (x, rest)
more_at next go_on x rest (Some o) = option_and_then (λ p. go_on (binary o.0 x p.0) p.1) (next o.1)

abbrev pub read_more : (BinaryOp → Bool) → Reader → ℕ → Expr → Reader
read_more joins next zero x ts = Some (x, ts)
read_more joins next (suc n) x ts = more_at next (read_more joins next n) x ts (behind_operator joins ts)

abbrev pub read_chain : (BinaryOp → Bool) → Reader → Reader → Reader
read_chain joins first next ts = option_and_then (λ p. read_more joins next (length p.1) p.0 p.1) (first ts)

unfoldable pub read_term : Reader
read_term = read_chain is_product read_factor read_factor

-- the sign that an operator is
abbrev pub sign_of : BinaryOp → UnaryOp
sign_of add = plus
sign_of _ = minus

abbrev pub signed_at : List Symbol → Option (BinaryOp × List Symbol) → Option (Expr × List Symbol)
signed_at ts None = read_term ts
signed_at ts (Some o) = option_map (λ p. (unary (sign_of o.0) p.0, p.1)) (read_term o.1)

unfoldable pub read_signed : Reader
read_signed ts = signed_at ts (behind_operator is_sum ts)

unfoldable pub read_sum : Reader
read_sum = read_chain is_sum read_signed read_term

unfoldable pub read_concatenation : Reader
read_concatenation = read_chain is_concat read_sum read_sum

abbrev pub related : Expr → List Symbol → Option (BinaryOp × List Symbol) → Option (Expr × List Symbol)
related x rest None = Some (x, rest)
related x rest (Some o) = option_map (λ p. (binary o.0 x p.0, p.1)) (read_concatenation o.1)

unfoldable pub read_relation : Reader
read_relation ts = option_and_then (λ p. related p.0 p.1 (behind_operator is_relation p.1)) (read_concatenation ts)

abbrev pub is_not : Symbol → Bool
is_not not_sign = true
is_not _ = false

abbrev pub behind_not : List Symbol → Option (List Symbol)
behind_not [] = None
behind_not (s ∷ rest) = if is_not s then Some rest else None

abbrev pub negated_at : List Symbol → Option (List Symbol) → Option (Expr × List Symbol)
negated_at ts None = read_relation ts
negated_at ts (Some rest) = option_map (λ p. (unary negation p.0, p.1)) (read_relation rest)

unfoldable pub read_negation : Reader
read_negation ts = negated_at ts (behind_not ts)

unfoldable pub read_conjunction : Reader
read_conjunction = read_chain is_conjunction read_negation read_negation

unfoldable pub read_disjunction : Reader
read_disjunction = read_chain is_disjunction read_conjunction read_conjunction

unfoldable pub read_equivalence : Reader
read_equivalence = read_chain is_equivalence read_disjunction read_disjunction

-- nothing is left
abbrev pub ended : Expr × List Symbol → Option Expr
ended (x, []) = Some x
ended (x, s ∷ rest) = None

-- the tree of all of them
unfoldable pub group : List Symbol → Option Expr
group ts = option_and_then ended (read_equivalence ts)
