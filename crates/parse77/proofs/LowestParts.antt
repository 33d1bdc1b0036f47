-- The lowest refused part of parts, one list behind another.
use Rattle.std.proofs.Common.{◌≡◌, ℕ, List, [], ◌∷◌, ◌++◌, Bool, true, false, Option, Some, None, refl, sym, ap, ◌∙◌, arith, nat_lt}
use Rattle.std.proofs.lemmas.Grind.{common_steps}
use Rattle.std.specs.Prelude.{if◌then◌else◌, ◌||◌}
use Rattle.std.specs.List.{list_any}
use Rattle.text_base.specs.Causes.{cause_number}
use Rattle.tree77.specs.Lexemes.{Part, is_lower, first_lowest}
use Rattle.parse77.specs.Reading.{lower_of}

-- ---- the lower of two

-- of three numbers: where one is less than the next, and that is less than the first or isn't
less_on : (x : Bool) (a b c : ℕ) → nat_lt c b ≡ x → nat_lt b a ≡ x → nat_lt c a ≡ x
less_on true a b c e f = grind (arith, common_steps)
less_on false a b c e f = grind (arith, common_steps)

-- the lower of three, from the right and from the left
of_three : (p q r : Part) (x y : Bool) → is_lower r q ≡ x → is_lower q p ≡ y → lower_of (Some p) (if x then Some r else Some q) ≡ lower_of (if y then Some q else Some p) (Some r)
of_three p q r true true e f = ap (λ b. if b then Some r else Some p) (less_on true (cause_number p.cause) (cause_number q.cause) (cause_number r.cause) e f) ∙ sym (ap (λ b. if b then Some r else Some q) e)
of_three p q r true false e f = refl
of_three p q r false true e f = ap (λ b. if b then Some q else Some p) f ∙ sym (ap (λ b. if b then Some r else Some q) e)
of_three p q r false false e f =
    ap (λ b. if b then Some q else Some p) f ∙ sym (ap (λ b. if b then Some r else Some p) (less_on false (cause_number p.cause) (cause_number q.cause) (cause_number r.cause) e f))

alone : (o : Option Part) → lower_of None o ≡ o
alone None = refl
alone (Some p) = refl

lower_of_all : (a b c : Option Part) → lower_of a (lower_of b c) ≡ lower_of (lower_of a b) c
lower_of_all a b None = refl
lower_of_all a None (Some r) = refl
lower_of_all None (Some q) (Some r) = alone (lower_of (Some q) (Some r))
lower_of_all (Some p) (Some q) (Some r) = of_three p q r (is_lower r q) (is_lower q p) refl refl

-- ---- the lowest of all

-- a part, if there is one, is lower than p
is_under : Part → Option Part → Bool
is_under p None = false
is_under p (Some q) = is_lower q p

under_two : (p q : Part) (o : Option Part) → is_under p (lower_of (Some q) o) ≡ (is_lower q p || is_under p o)
unfolding is_under
under_two p q None = or_false (is_lower q p)
  where
    or_false : (b : Bool) → b ≡ (b || false)
    or_false true = refl
    or_false false = refl
under_two p q (Some r) = go (is_lower r q) refl (is_lower q p) refl (is_lower r p) refl
  where
    go : (x : Bool) → is_lower r q ≡ x → (y : Bool) → is_lower q p ≡ y → (z : Bool) → is_lower r p ≡ z → is_under p (if x then Some r else Some q) ≡ (y || z)
    go true e true f z g = less_on true (cause_number p.cause) (cause_number q.cause) (cause_number r.cause) e f
    go true e false f z g = g
    go false e true f z g = f
    go false e false f z g = f ∙ sym (less_on false (cause_number p.cause) (cause_number q.cause) (cause_number r.cause) e f) ∙ g

-- one more before some, of which one is lower than it or none is
with_lower : (p : Part) (o : Option Part) (b : Bool) → b ≡ is_under p o → (if b then o else Some p) ≡ lower_of (Some p) o
unfolding is_under
with_lower p None b e = ap (λ b. if b then None else Some p) e
with_lower p (Some q) b e = ap (λ b. if b then Some q else Some p) e

-- one of some parts is lower than p where the lowest is
one_is_under : (p : Part) (ps : List Part) → list_any (λ q. is_lower q p) ps ≡ is_under p (first_lowest ps)
unfolding is_under
one_is_under p [] = refl
one_is_under p (q ∷ ps) =
    ap (λ b. is_lower q p || b) (one_is_under p ps)
    ∙ sym (under_two p q (first_lowest ps))
    ∙ ap (is_under p) (sym (with_lower q (first_lowest ps) (list_any (λ r. is_lower r q) ps) (one_is_under q ps)))

lowest_of_more : (p : Part) (ps : List Part) → first_lowest (p ∷ ps) ≡ lower_of (Some p) (first_lowest ps)
lowest_of_more p ps = with_lower p (first_lowest ps) (list_any (λ q. is_lower q p) ps) (one_is_under p ps)

-- the lowest of some parts, and of others behind them
pub lowest_of_both : (ps qs : List Part) → first_lowest (ps ++ qs) ≡ lower_of (first_lowest ps) (first_lowest qs)
lowest_of_both [] qs = sym (alone (first_lowest qs))
lowest_of_both (p ∷ ps) qs =
    lowest_of_more p (ps ++ qs)
    ∙ ap (lower_of (Some p)) (lowest_of_both ps qs)
    ∙ lower_of_all (Some p) (first_lowest ps) (first_lowest qs)
    ∙ ap (λ o. lower_of o (first_lowest qs)) (sym (lowest_of_more p ps))

-- where no part is lowest there is none
pub no_lowest : (ps : List Part) → first_lowest ps ≡ None → ps ≡ []
no_lowest [] e = refl
no_lowest (p ∷ ps) e = absurd (some (first_lowest ps) (sym (lowest_of_more p ps) ∙ e))
  where
    some : (o : Option Part) → lower_of (Some p) o ≡ None → ⊥
    some None e = cc
    some (Some q) e = go (is_lower q p) e
      where
        go : (b : Bool) → (if b then Some q else Some p) ≡ None → ⊥
        go true e = cc
        go false e = cc
