-- The table of operations row by row: which operands fit, and what an operator gives.
use Rattle.std.proofs.Common.{◌≡◌, ℕ, zero, suc, Bool, true, false, List, [], ◌∷◌, map, length, replicate, Some, None, refl, ◌∙◌, arith}
use Rattle.std.specs.Prelude.{◌&&◌, if◌then◌else◌, ◌==◌}
use Rattle.std.specs.Option.{is_some}
use Rattle.std.specs.List.{list_all}
use Rattle.std.specs.Cmp.Lexicographic.{pointwise}
use Rattle.std.proofs.lemmas.Bool.Decides.{nat_tests}
use Rattle.std.proofs.lemmas.List.{length-map}
use Rattle.text_base.specs.Values.{Kind, integers, logicals, characters}
use Rattle.text_base.specs.Trees.{UnaryOp, BinaryOp}
use Rattle.text_base.specs.Operations.{is_kind, from_kinds, from_related, from_two_or_more, outcome_kind}
use Rattle.text_base.specs.Operators.{unary_op, binary_op}
use Rattle.text_base.specs.declared.operation.Op.{Op}
use Rattle.text_base.specs.declared.operation.Op.TheVariants as op
use Rattle.implicit_types.specs.Operands.{takes, is_count, one, two, two_or_more, may_all_be, may_be_operands, of_one_kind, operator_kind}

-- ---- which operands fit

kind_sym : (a b : Kind) → is_kind a b ≡ is_kind b a
kind_sym a b = grind arith

exactly : (k : Kind) (n : ℕ) (ks : List Kind) → ((length (map Some ks) == n) && may_all_be k (map Some ks)) ≡ pointwise is_kind (replicate n k) ks
exactly k zero [] = refl
exactly k zero (a ∷ ks) = grind (arith, nat_tests)
exactly k (suc n) [] = grind (arith, nat_tests)
exactly k (suc n) (a ∷ ks) = grind (arith, nat_tests, kind_sym a k, exactly k n ks)

given_where : (b : Bool) (given : Kind) → b ≡ is_some (if b then Some given else None)
given_where true given = refl
given_where false given = refl

of_one : (k given : Kind) (ks : List Kind) → (is_count one (length (map Some ks)) && may_all_be k (map Some ks)) ≡ is_some (from_kinds (k ∷ []) given ks)
of_one k given ks = exactly k 1 ks ∙ given_where (pointwise is_kind (k ∷ []) ks) given

of_two : (k given : Kind) (ks : List Kind) → (is_count two (length (map Some ks)) && may_all_be k (map Some ks)) ≡ is_some (from_kinds (k ∷ k ∷ []) given ks)
of_two k given ks = exactly k 2 ks ∙ given_where (pointwise is_kind (k ∷ k ∷ []) ks) given

of_related : (ks : List Kind) → (is_count two (length (map Some ks)) && may_be_operands of_one_kind (map Some ks)) ≡ is_some (from_related ks)
of_related ks = grind (arith, exactly integers 2 ks, exactly characters 2 ks)

all_integers : (ks : List Kind) → may_all_be integers (map Some ks) ≡ list_all (is_kind integers) ks
all_integers [] = refl
all_integers (a ∷ ks) = grind (arith, kind_sym a integers, all_integers ks)

of_more : (ks : List Kind) → (is_count two_or_more (length (map Some ks)) && may_all_be integers (map Some ks)) ≡ is_some (from_two_or_more ks)
of_more ks = grind (arith, all_integers ks, length-map ks (λ (k : Kind). Some k))

pub fits : (o : Op) (ks : List Kind) → takes o (map Some ks) ≡ is_some (outcome_kind o ks)
fits op.Power = of_two integers integers
fits op.Times = of_two integers integers
fits op.Over = of_two integers integers
fits op.Positive = of_one integers integers
fits op.Negative = of_one integers integers
fits op.Plus = of_two integers integers
fits op.Minus = of_two integers integers
fits op.Concat = of_two characters characters
fits op.Lt = of_related
fits op.Le = of_related
fits op.Eq = of_related
fits op.Ne = of_related
fits op.Gt = of_related
fits op.Ge = of_related
fits op.Not = of_one logicals logicals
fits op.And = of_two logicals logicals
fits op.Or = of_two logicals logicals
fits op.Eqv = of_two logicals logicals
fits op.Neqv = of_two logicals logicals
fits op.Abs = of_one integers integers
fits op.Iabs = of_one integers integers
fits op.Mod = of_two integers integers
fits op.Sign = of_two integers integers
fits op.Isign = of_two integers integers
fits op.Dim = of_two integers integers
fits op.Idim = of_two integers integers
fits op.Max = of_more
fits op.Max0 = of_more
fits op.Min = of_more
fits op.Min0 = of_more
fits op.Len = of_one characters integers
fits op.Index = of_two characters integers
fits op.Char = of_one integers characters
fits op.Ichar = of_one characters integers
fits op.Lge = of_two characters logicals
fits op.Lgt = of_two characters logicals
fits op.Lle = of_two characters logicals
fits op.Llt = of_two characters logicals

-- ---- what an operator gives

pub signs : (o : UnaryOp) (ks : List Kind) (k : Kind) → outcome_kind (unary_op o) ks ≡ Some k → operator_kind (unary_op o) ≡ k
signs o ks k e = grind arith

pub operators : (o : BinaryOp) (ks : List Kind) (k : Kind) → outcome_kind (binary_op o) ks ≡ Some k → operator_kind (binary_op o) ≡ k
operators o ks k e = grind arith
