-- Divisions and what they leave.
use Rattle.std.proofs.Common.{◌≡◌, ◌≢◌, refl, sym, ap, ◌∙◌, subst, ℕ, zero, suc, ◌<◌, ◌%◌, ℤ, pos, negsuc, neg_ℤ, true, false, ◌⊎◌, inl, inr, arith, w32, FitsSigned}
use Rattle.std.proofs.lemmas.Bool.Decides.{nat_tests}
use Rattle.std.proofs.lemmas.Int.{ints, quot-rem, rem_below}
use Rattle.std.specs.Prelude.{if◌then◌else◌, ◌==◌, nat_abs, int_lt, int_div, int_rem}
use Rattle.std.specs.Int.Signed.{mag_rem}
use Rattle.text_base.specs.declared.operation.RunFault.TheVariants.{ZeroDivide}
use Rattle.text_base.specs.Operations.{Computed, faults, in_range, unless_zero}
use Rattle.value_ops.specs.Laws.{left_of, QuotientsAreTruncated}
use Rattle.value_ops.proofs.Ranges.{range_fits, given}

left_is : (a b : ℤ) → left_of a b (int_div a b) ≡ int_rem a b
left_is a b = let e = quot-rem a b in omega (arith, ints)

sign : (a b : ℤ) → (int_rem a b ≡ pos 0) ⊎ (int_lt (int_rem a b) (pos 0) ≡ int_lt a (pos 0))
sign (pos n) b = inr (grind (arith, nat_tests))
sign (negsuc n) b = by (suc n % nat_abs b)
  where
    by : (r : ℕ) → (neg_ℤ (pos r) ≡ pos 0) ⊎ (int_lt (neg_ℤ (pos r)) (pos 0) ≡ true)
    by zero = inl refl
    by (suc r) = inr refl

unless : (b : ℤ) (c : Computed) → b ≢ pos 0 → (unless_zero b c ≡ c) × (0 < nat_abs b)
unless (pos zero) c n = absurd (n refl)
unless (pos (suc b)) c n = let z : (suc b == 0) ≡ false = grind (arith, nat_tests) in (ap (λ z. if z then faults ZeroDivide else c) z, omega arith)
unless (negsuc b) c n = (refl, omega arith)

pub truncated : QuotientsAreTruncated
truncated a b n h =
    let l = left_is a b in
    let f : FitsSigned w32 (int_rem a b) = record { sfits = omega (arith, mag_rem a b, (range_fits a h).sfits) } in (
      int_div a b,
      (
        subst (λ r. nat_abs r < nat_abs b) (sym l) (rem_below a b (unless b (in_range (pos 0)) n).1),
        subst (λ r. (r ≡ pos 0) ⊎ (int_lt r (pos 0) ≡ int_lt a (pos 0))) (sym l) (sign a b),
      ),
      (unless b _ n).0,
      (unless b _ n).0 ∙ given _ (subst (FitsSigned w32) (sym l) f),
    )
