-- Powers below 0.
use Rattle.std.proofs.Common.{◌≡◌, ◌*◌, ◌*ℤ◌, refl, sym, ap, ◌∙◌, ℕ, zero, suc, ◌<◌, ◌^◌, ◌/◌, ◌%◌, ℤ, pos, negsuc, neg_ℤ, Bool, true, false, cond, arith, nat_eq, of_z, w32}
use Rattle.std.proofs.lemmas.Nat.{div_below}
use Rattle.std.proofs.lemmas.Bool.{false≢true}
use Rattle.std.proofs.lemmas.Bool.Decides.{nat_tests}
use Rattle.std.proofs.Math.Nat.{pow-zero, pow-suc, pow-lt-pow_left}
use Rattle.std.proofs.Math.IntN.{pos-*ℤ-negsuc}
use Rattle.std.specs.Int.{int_pow}
use Rattle.std.specs.Prelude.{not, if◌then◌else◌, ◌==◌, int_rem, int_lt}
use Rattle.text_base.specs.declared.operation.RunFault.TheVariants.{ZeroDivide, Overflow}
use Rattle.text_base.specs.Values.{integer}
use Rattle.text_base.specs.Operations.{Computed, is_integer, computes, faults, raised, divided, in_range}
use Rattle.value_ops.specs.Answers.{reciprocal}
use Rattle.value_ops.specs.Laws.{PowersOfZero, NextPowers, NegativePowers}

one_pow : (n : ℕ) → 1 ^ n ≡ 1
one_pow zero = refl
one_pow (suc n) = omega (arith, pow-suc 1 n, one_pow n)

-- 1 divided by what is above 1 in magnitude
small : (m : ℕ) → 1 < m → (even : Bool) → divided (pos 1) (cond even (pos m) (neg_ℤ (pos m))) ≡ computes (integer (pos 0))
small zero h even = absurd (omega arith)
small (suc m) h even =
    let e : 1 / suc m ≡ 0 = omega (arith, div_below 1 (suc m) 1 (omega arith) (omega arith)) in
    let z : (suc m == 0) ≡ false = grind (arith, nat_tests) in
    by even e z
  where
    by : (even : Bool) → 1 / suc m ≡ 0 → (suc m == 0) ≡ false → divided (pos 1) (cond even (pos (suc m)) (neg_ℤ (pos (suc m)))) ≡ computes (integer (pos 0))
    by true e z = λ i. cond (z i) (faults ZeroDivide) (in_range (pos (e i)))
    by false e z = ap (λ q. in_range (neg_ℤ (pos q))) e

large : (k n : ℕ) → 1 < suc (suc k) ^ suc n
large k n = let h : 1 ^ suc n < suc (suc k) ^ suc n = pow-lt-pow_left (omega arith) (omega arith) in omega (arith, one_pow (suc n))

ones : (m : ℕ) → m ≡ 1 → (even : Bool) → divided (pos 1) (cond even (pos m) (neg_ℤ (pos m))) ≡ computes (integer (cond even (pos 1) (negsuc 0)))
ones m is true = ap (λ m. divided (pos 1) (pos m)) is
ones m is false = ap (λ m. divided (pos 1) (neg_ℤ (pos m))) is

reciprocal_is : (a : ℤ) (n : ℕ) → raised a (negsuc n) ≡ reciprocal a (suc n % 2 == 0)
reciprocal_is (pos zero) n = let e : 0 ^ suc n ≡ 0 = omega (arith, pow-suc 0 n) in ap (λ p. divided (pos 1) (pos p)) e
reciprocal_is (pos (suc zero)) n = ones _ (one_pow (suc n)) true
reciprocal_is (pos (suc (suc k))) n = small _ (large k n) true
reciprocal_is (negsuc zero) n = ones _ (one_pow (suc n)) (suc n % 2 == 0)
reciprocal_is (negsuc (suc k)) n = small _ (large k n) (suc n % 2 == 0)

even_is : (r : ℕ) → r < 2 → nat_eq (of_z w32 (neg_ℤ (pos r))) 0 ≡ (r == 0)
even_is zero h = refl
even_is (suc zero) h = refl
even_is (suc (suc r)) h = absurd (omega arith)

-- a negative power, where the exponent's remainder by 2 tells whether it is even
pub below_zero : (a b : ℤ) → int_lt b (pos 0) ≡ true → raised a b ≡ reciprocal a (nat_eq (of_z w32 (int_rem b (pos 2))) 0)
below_zero a (pos n) t = absurd (grind (arith, nat_tests))
below_zero a (negsuc n) t = reciprocal_is a n ∙ ap (reciprocal a) (sym (even_is (suc n % 2) (omega arith)))

-- ---- powers as products

parity : (n : ℕ) → (suc n % 2 == 0) ≡ not (n % 2 == 0)
parity n = grind (arith, nat_tests)

next_pow : (a : ℤ) (n : ℕ) → int_pow a (suc n) ≡ int_pow a n *ℤ a
next_pow (pos a) n = ap pos (pow-suc a n)
next_pow (negsuc a) n = by (n % 2 == 0) (suc n % 2 == 0) (parity n) (suc a ^ n) (suc a ^ suc n) (pow-suc (suc a) n)
  where
    by : (even next : Bool) → next ≡ not even → (p q : ℕ) → q ≡ p * suc a → cond next (pos q) (neg_ℤ (pos q)) ≡ cond even (pos p) (neg_ℤ (pos p)) *ℤ negsuc a
    by true next e p q is = (λ i. cond (e i) (pos (is i)) (neg_ℤ (pos (is i)))) ∙ sym (pos-*ℤ-negsuc p a)
    by false next e zero q is =
        let z : 0 * suc a ≡ 0 = omega arith in
        (λ i. cond (e i) (pos (is i)) (neg_ℤ (pos (is i)))) ∙ ap pos z ∙ sym (ap (λ k. neg_ℤ (pos k)) z)
    by false next e (suc p) q is = λ i. cond (e i) (pos (is i)) (neg_ℤ (pos (is i)))

abbrev integer_of : Computed → ℤ
integer_of (computes (integer z)) = z
integer_of _ = pos 0

abbrev is_fault : Computed → Bool
is_fault (faults f) = true
is_fault _ = false

in_range_is : (z p : ℤ) → in_range z ≡ computes (integer p) → z ≡ p
in_range_is z p = by (is_integer z)
  where
    by : (b : Bool) → (if b then computes (integer z) else faults Overflow) ≡ computes (integer p) → z ≡ p
    by true e = ap integer_of e
    by false e = absurd (false≢true (sym (ap is_fault e)))

pub zero_power : PowersOfZero
zero_power (pos a) = ap (λ p. in_range (pos p)) (pow-zero a)
zero_power (negsuc a) = ap (λ p. in_range (pos p)) (pow-zero (suc a))

pub next_power : NextPowers
next_power a p n e = ap in_range (next_pow a n ∙ ap (λ q. q *ℤ a) (in_range_is (int_pow a n) p e))

zero_divides : (a : ℤ) (even : Bool) → reciprocal a even ≡ faults ZeroDivide → a ≡ pos 0
zero_divides (pos zero) even e = refl
zero_divides (pos (suc zero)) even e = absurd (false≢true (ap is_fault e))
zero_divides (pos (suc (suc n))) even e = absurd (false≢true (ap is_fault e))
zero_divides (negsuc zero) even e = absurd (false≢true (ap is_fault e))
zero_divides (negsuc (suc n)) even e = absurd (false≢true (ap is_fault e))

pub negative_power : NegativePowers
negative_power a n = (λ e. zero_divides a _ (sym (reciprocal_is a n) ∙ e), λ z. reciprocal_is a n ∙ ap (λ a. reciprocal a (suc n % 2 == 0)) z)
