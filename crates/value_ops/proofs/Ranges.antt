-- The range of integers, as numbers of 32 bits have it.
use Rattle.std.proofs.Common.{◌≡◌, refl, sym, ap, ◌∙◌, ℤ, pos, negsuc, Bool, true, false, Option, Some, None, arith}
use Rattle.std.proofs.lemmas.Bool.Decides.{nat_tests}
use Rattle.std.specs.Prelude.{FitsSigned, if◌then◌else◌}
use Rattle.std.specs.Int.{w32}
use Rattle.std.specs.Option.{SomeIff, ok_or}
use Rattle.text_base.specs.declared.operation.RunFault.TheVariants.{Overflow}
use Rattle.text_base.specs.Values.{integer}
use Rattle.text_base.specs.Operations.{is_integer, in_range, computes, faults}
use Rattle.value_ops.specs.Answers.{answered}

-- the range is that of 32 bits
pub fits_range : (z : ℤ) → FitsSigned w32 z → is_integer z ≡ true
fits_range (pos n) f = grind (arith, nat_tests, f.sfits)
fits_range (negsuc n) f = grind (arith, nat_tests, f.sfits)

pub range_fits : (z : ℤ) → is_integer z ≡ true → FitsSigned w32 z
range_fits (pos n) e = record { sfits = grind (arith, nat_tests) }
range_fits (negsuc n) e = record { sfits = grind (arith, nat_tests) }

-- a number that is in the range is given
pub given : (z : ℤ) → FitsSigned w32 z → in_range z ≡ computes (integer z)
given z f = ap (λ b. if b then computes (integer z) else faults Overflow) (fits_range z f)

by_fit : (z : ℤ) (b : Bool) → is_integer z ≡ b → (FitsSigned w32 z → is_integer z ≡ false) → is_integer z ≡ false
by_fit z true e no_ = no_ (range_fits z e)
by_fit z false e no_ = e

-- a checked operation gives the number where it is in the range, and nothing elsewhere
pub exact : (o : Option ℤ) (z : ℤ) → SomeIff o (FitsSigned w32 z) z → answered (ok_or o Overflow) ≡ in_range z
exact None z never = sym (ap (λ b. if b then computes (integer z) else faults Overflow) (by_fit z (is_integer z) refl (λ f. absurd (never f))))
exact (Some x) z is = ap (λ x. computes (integer x)) is.1 ∙ sym (given z is.0)
