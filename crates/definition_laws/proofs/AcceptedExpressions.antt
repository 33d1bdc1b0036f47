-- The expressions that are converted are those of integers.
use Rattle.std.proofs.Common.{◌≡◌, ◌↔◌, ◌⊎◌, inl, inr, ⊎_elim, ◌∙◌, ap, refl, ℕ, zero, suc, ◌≤◌, Bool, true, ◌&&◌, List, length, replicate, Option, Some, None, arith}
use Rattle.std.specs.Prelude.{nat_le, if◌then◌else◌}
use Rattle.std.specs.List.{list_all}
use Rattle.std.specs.Option.{option_and_then}
use Rattle.std.proofs.lemmas.Bool.{and_from, and_parts, or_left, or_right, or_cases}
use Rattle.std.proofs.lemmas.Bool.Decides.{nat_tests}
use Rattle.text_base.specs.ExpressionKinds.{are_same}
use Rattle.text_base.specs.Operations.{is_kind, from_integer, from_integers, from_two_or_more, outcome_kind}
use Rattle.text_base.specs.Operators.{unary_op, binary_op, intrinsic}
use Rattle.text_base.specs.Trees.{Expr, int, bool, text, name, call, substring, unary, binary, paren, Exprs, none, more}
use Rattle.text_base.specs.Values.{Kind, integers}
use Rattle.text_base.specs.declared.operation.Op.{Op}
use Rattle.text_base.specs.declared.operation.Op.TheVariants as op
use Rattle.project_set.specs.Refusals.{gives_integer_of, is_integer_function, is_built, are_built}
use Rattle.definition_laws.specs.AcceptedFiles.{IsOfIntegers, IsArithmetic, constant, variable, signed, operation, function, parenthesized, AreArithmetic, no_more, one_more}

abbrev gives_integer : Option Kind → Bool
gives_integer k = are_same k (Some integers)

one_integer : (n : ℕ) → (gives_integer (from_integer (replicate n integers)) ≡ true) ↔ (n ≡ 1)
one_integer zero = (λ e. absurd cc, λ e. absurd (omega (arith, e)))
one_integer (suc zero) = (λ e. refl, λ e. refl)
one_integer (suc (suc n)) = (λ e. absurd cc, λ e. absurd (omega (arith, e)))

two_integers : (n : ℕ) → (gives_integer (from_integers (replicate n integers)) ≡ true) ↔ (n ≡ 2)
two_integers zero = (λ e. absurd cc, λ e. absurd (omega (arith, e)))
two_integers (suc zero) = (λ e. absurd cc, λ e. absurd (omega (arith, e)))
two_integers (suc (suc zero)) = (λ e. refl, λ e. refl)
two_integers (suc (suc (suc n))) = (λ e. absurd cc, λ e. absurd (omega (arith, e)))

all_integers : (n : ℕ) → list_all (is_kind integers) (replicate n integers) ≡ true
all_integers zero = refl
all_integers (suc n) = all_integers n

more_integers : (n : ℕ) → (gives_integer (from_two_or_more (replicate n integers)) ≡ true) ↔ (2 ≤ n)
more_integers zero = (λ e. absurd cc, λ le. absurd (omega (arith, le)))
more_integers (suc zero) = (λ e. absurd cc, λ le. absurd (omega (arith, le)))
more_integers (suc (suc n)) =
    let two : nat_le 2 (suc (suc (length (replicate n integers)))) ≡ true = grind (arith, nat_tests) in
    (λ e. omega arith, λ le. λ i. gives_integer (if two i && all_integers n i then Some integers else None))

-- the operations that give an integer of integers
of_integers : (o : Op) (n : ℕ) → (gives_integer (outcome_kind o (replicate n integers)) ≡ true) ↔ IsOfIntegers o n
of_integers op.Positive n = one_integer n
of_integers op.Negative n = one_integer n
of_integers op.Abs n = one_integer n
of_integers op.Iabs n = one_integer n
of_integers op.Power n = two_integers n
of_integers op.Times n = two_integers n
of_integers op.Over n = two_integers n
of_integers op.Plus n = two_integers n
of_integers op.Minus n = two_integers n
of_integers op.Mod n = two_integers n
of_integers op.Sign n = two_integers n
of_integers op.Isign n = two_integers n
of_integers op.Dim n = two_integers n
of_integers op.Idim n = two_integers n
of_integers op.Max n = more_integers n
of_integers op.Max0 n = more_integers n
of_integers op.Min n = more_integers n
of_integers op.Min0 n = more_integers n
of_integers _ zero = (λ e. absurd cc, λ h. absurd h)
of_integers _ (suc zero) = (λ e. absurd cc, λ h. absurd h)
of_integers _ (suc (suc zero)) = (λ e. absurd cc, λ h. absurd h)
of_integers _ (suc (suc (suc n))) = (λ e. absurd cc, λ h. absurd h)

-- an intrinsic function that gives one of so many integers, and one that does of one or of two
function_of : (f : List ℕ) (n : ℕ) → (gives_integer_of f n ≡ true) ↔ ((o : Op) × (intrinsic f ≡ Some o) × IsOfIntegers o n)
function_of f n = (go (intrinsic f) refl, λ h. ap (λ o. gives_integer (option_and_then (λ o. outcome_kind o (replicate n integers)) o)) h.1 ∙ (of_integers h.0 n).1 h.2)
  where
    go : (o : Option Op) → intrinsic f ≡ o → gives_integer (option_and_then (λ o. outcome_kind o (replicate n integers)) o) ≡ true → (o : Op) × (intrinsic f ≡ Some o) × IsOfIntegers o n
    go None is e = absurd cc
    go (Some o) is e = (o, is, (of_integers o n).0 e)

integer_function : (f : List ℕ) → (is_integer_function f ≡ true) ↔ ((o : Op) × (intrinsic f ≡ Some o) × (IsOfIntegers o 1 ⊎ IsOfIntegers o 2))
integer_function f = (
  λ e. ⊎_elim (λ one. let h = (function_of f 1).0 one in (h.0, h.1, inl h.2)) (λ two. let h = (function_of f 2).0 two in (h.0, h.1, inr h.2)) (or_cases (gives_integer_of f 1) (gives_integer_of f 2) e),
  λ h. ⊎_elim (λ one. or_left (gives_integer_of f 1) (gives_integer_of f 2) ((function_of f 1).1 (h.0, h.1, one)))
      (λ two. or_right (gives_integer_of f 1) (gives_integer_of f 2) ((function_of f 2).1 (h.0, h.1, two))) h.2,
)

mutual
  pub arithmetic : (x : Expr) → is_built x ≡ true → IsArithmetic x
  arithmetic (int v) built = constant
  arithmetic (name x) built = variable
  arithmetic (call f xs) built = let b = and_parts _ _ built in let h = (integer_function f).0 b.0 in function h.1 h.2 (all_arithmetic xs b.1)
  arithmetic (unary o a) built = let b = and_parts _ _ built in signed ((of_integers (unary_op o) 1).0 b.0) (arithmetic a b.1)
  arithmetic (binary o a b) built = let p = and_parts _ _ built in let q = and_parts _ _ p.1 in operation ((of_integers (binary_op o) 2).0 p.0) (arithmetic a q.0) (arithmetic b q.1)
  arithmetic (paren a) built = parenthesized (arithmetic a built)
  arithmetic (bool b) built = absurd cc
  arithmetic (text t) built = absurd cc
  arithmetic (substring a from to) built = absurd cc

  all_arithmetic : (xs : Exprs) → are_built xs ≡ true → AreArithmetic xs
  all_arithmetic none built = no_more
  all_arithmetic (more a rest) built = let b = and_parts _ _ built in one_more (arithmetic a b.0) (all_arithmetic rest b.1)

mutual
  pub is_arithmetic_built : (x : Expr) → IsArithmetic x → is_built x ≡ true
  is_arithmetic_built x constant = refl
  is_arithmetic_built x variable = refl
  is_arithmetic_built x (signed {o = o} {a = a} is h) = and_from _ _ ((of_integers (unary_op o) 1).1 is) (is_arithmetic_built a h)
  is_arithmetic_built x (operation {o = o} {a = a} {b = b} is h k) = and_from _ _ ((of_integers (binary_op o) 2).1 is) (and_from _ _ (is_arithmetic_built a h) (is_arithmetic_built b k))
  is_arithmetic_built x (function {f = f} {xs = xs} {o = o} is of h) = and_from _ _ ((integer_function f).1 (o, is, of)) (all_arithmetic_built xs h)
  is_arithmetic_built x (parenthesized {a = a} h) = is_arithmetic_built a h

  all_arithmetic_built : (xs : Exprs) → AreArithmetic xs → are_built xs ≡ true
  all_arithmetic_built xs no_more = refl
  all_arithmetic_built xs (one_more {a = a} {rest = rest} h hs) = and_from _ _ (is_arithmetic_built a h) (all_arithmetic_built rest hs)
