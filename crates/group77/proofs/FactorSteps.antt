-- The reading of a factor, step by step.
use Rattle.std.proofs.Common.{◌≡◌, ◌∙◌, zero, suc, Bool, true, false, List, [], ◌∷◌, length, Option, Some, None, refl, sym, ap}
use Rattle.std.specs.Prelude.{if◌then◌else◌}
use Rattle.std.specs.Option.{option_map}
use Rattle.text_base.specs.Trees.{BinaryOp, power, Expr, binary}
use Rattle.tree77.specs.Expressions.{Symbol, operand, operator}
use Rattle.group77.specs.Grouping.{is_power, behind_operator, read_operand, read_factor}
use Rattle.group77.proofs.GroupSteps.{operator_found}

-- an operator is one symbol
pub operator_length : (test : BinaryOp → Bool) (ts : List Symbol) (o : BinaryOp × List Symbol) → behind_operator test ts ≡ Some o → length ts ≡ suc (length o.1)
operator_length test ts o h = ap length (operator_found test ts o h).0

-- an operand is one symbol
pub operand_length : (ts : List Symbol) (p : Expr × List Symbol) → read_operand ts ≡ Some p → length ts ≡ suc (length p.1)
operand_length (operand x ∷ rest) p h = ap (λ (o : Option (Expr × List Symbol)). elim o [ None ↦ zero | Some q ↦ suc (length q.1) ]) h
operand_length [] p h = absurd cc
operand_length (s ∷ rest) p h = absurd cc

-- one operator is a power
pub is_the_power : (o : BinaryOp) → is_power o ≡ true → o ≡ power
is_the_power power h = refl
is_the_power _ h = absurd cc

-- what stands behind an operand decides whether it is alone
abbrev pub power_at : Expr → List Symbol → Option (BinaryOp × List Symbol) → Option (Expr × List Symbol)
power_at x r None = Some (x, r)
power_at x r (Some o) = option_map (λ (p : Expr × List Symbol). (binary o.0 x p.0, p.1)) (read_factor o.1)

pub factor_is : (x : Expr) (r : List Symbol) → read_factor (operand x ∷ r) ≡ power_at x r (behind_operator is_power r)
unfolding read_factor
factor_is x (operator o ∷ r) = go (is_power o)
  where
    go : (b : Bool) → (if b then option_map (λ (p : Expr × List Symbol). (binary o x p.0, p.1)) (read_factor r) else Some (x, operator o ∷ r)) ≡ power_at x (operator o ∷ r) (if b then Some (o, r) else None)
    go true = refl
    go false = refl
factor_is x [] = refl
factor_is x (s ∷ r) = refl

-- behind an operand it is so
factor_behind : (ts r : List Symbol) (x : Expr) → read_operand ts ≡ Some (x, r) → read_factor ts ≡ power_at x r (behind_operator is_power r)
factor_behind (operand y ∷ ts) r x h = factor_is y ts ∙ ap (λ (o : Option (Expr × List Symbol)). elim o [ None ↦ None | Some q ↦ power_at q.0 q.1 (behind_operator is_power q.1) ]) h
factor_behind [] r x h = absurd cc
factor_behind (s ∷ ts) r x h = absurd cc

-- no operand, no factor
pub factor_fails : (ts : List Symbol) → read_operand ts ≡ None → read_factor ts ≡ None
unfolding read_factor
factor_fails (operand x ∷ ts) h = absurd cc
factor_fails [] h = refl
factor_fails (s ∷ ts) h = refl

-- an operand without a power is a factor
pub factor_alone : (ts r : List Symbol) (x : Expr) → read_operand ts ≡ Some (x, r) → behind_operator is_power r ≡ None → read_factor ts ≡ Some (x, r)
factor_alone ts r x h build_error = factor_behind ts r x h ∙ ap (power_at x r) build_error

-- an operand and a power of it
pub power_reads : (ts r u v : List Symbol) (x y z : Expr) (o : BinaryOp) → read_operand ts ≡ Some (x, r) → behind_operator is_power r ≡ Some (o, u) → read_factor u ≡ Some (y, v) → z ≡ binary o x y
    → read_factor ts ≡ Some (z, v)
power_reads ts r u v x y z o h found is made =
    factor_behind ts r x h ∙ ap (power_at x r) found ∙ ap (option_map (λ (p : Expr × List Symbol). (binary o x p.0, p.1))) is ∙ ap (λ (t : Expr). Some (t, v)) (sym made)

-- an operator of a power without a factor behind it
pub power_fails : (ts r u : List Symbol) (x : Expr) (o : BinaryOp) → read_operand ts ≡ Some (x, r) → behind_operator is_power r ≡ Some (o, u) → read_factor u ≡ None → read_factor ts ≡ None
power_fails ts r u x o h found is = factor_behind ts r x h ∙ ap (power_at x r) found ∙ ap (option_map (λ (p : Expr × List Symbol). (binary o x p.0, p.1))) is

pub ruleset factor_steps = (operator_length, operand_length, factor_fails, factor_alone, power_fails)
