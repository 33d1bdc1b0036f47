-- The lowest refused part of several lists of parts.
use Rattle.std.proofs.Common.{◌≡◌, ℕ, List, [], ◌∷◌, ◌++◌, Bool, true, false, Option, Some, None, refl, sym, ap, ◌∙◌, arith, nat_lt}
use Rattle.std.proofs.lemmas.Grind.{common_steps}
use Rattle.std.specs.Prelude.{◌||◌, if◌then◌else◌}
use Rattle.std.specs.List.{list_any}
use Rattle.std.proofs.Math.Bool.{or-true}
use Rattle.text_base.specs.Causes.{cause_number}
use Rattle.tree77.specs.Lexemes.{Part, is_lower, first_lowest}
use Rattle.expr77.specs.Gathering.{keep}
use Rattle.forms77.specs.Reading.{parts_in}

pub keep_append : (k : Option Part) (ps qs : List Part) → keep k (ps ++ qs) ≡ keep (keep k ps) qs
keep_append k [] qs = refl
keep_append None (p ∷ ps) qs = keep_append (Some p) ps qs
keep_append (Some k) (p ∷ ps) qs = keep_append (if is_lower p k then Some p else Some k) ps qs

-- ---- parts that were kept apart

abbrev kept_of : Bool → Part → Part → Option Part
kept_of b p k = if b then Some p else Some k

same_lowest : (k p q : Part) (qs : List Part) (x y z : Bool) → is_lower q p ≡ y → is_lower p k ≡ x → is_lower q k ≡ z
    → keep (if y then kept_of z q k else kept_of x p k) qs ≡ keep (if x then kept_of y q p else kept_of z q k) qs
same_lowest k p q qs true true true e f g = refl
same_lowest k p q qs true false true e f g = refl
same_lowest k p q qs true false false e f g = refl
same_lowest k p q qs false true true e f g = refl
same_lowest k p q qs false true false e f g = refl
same_lowest k p q qs false false false e f g = refl
same_lowest k p q qs true true false e f g = absurd (orders (cause_number q.cause) (cause_number p.cause) (cause_number k.cause) e f g)
  where
    orders : (a b c : ℕ) → nat_lt a b ≡ true → nat_lt b c ≡ true → nat_lt a c ≡ false → ⊥
    orders a b c e f g = grind (arith, common_steps)
same_lowest k p q qs false false true e f g = absurd (orders (cause_number q.cause) (cause_number p.cause) (cause_number k.cause) e f g)
  where
    orders : (a b c : ℕ) → nat_lt a b ≡ false → nat_lt b c ≡ false → nat_lt a c ≡ true → ⊥
    orders a b c e f g = grind (arith, common_steps)

-- the lowest of some parts stands for them
from_one : (k p : Part) (qs : List Part) → keep (Some k) (parts_in (keep (Some p) qs)) ≡ keep (kept_of (is_lower p k) p k) qs
from_one k p [] = refl
from_one k p (q ∷ qs) = go (is_lower q p) refl (from_one k q qs) (from_one k p qs)
  where
    go : (y : Bool) → is_lower q p ≡ y → keep (Some k) (parts_in (keep (Some q) qs)) ≡ keep (kept_of (is_lower q k) q k) qs → keep (Some k) (parts_in (keep (Some p) qs)) ≡ keep (kept_of (is_lower p k) p k) qs
        → keep (Some k) (parts_in (keep (kept_of (is_lower q p) q p) qs)) ≡ keep (kept_of (is_lower p k) p k) (q ∷ qs)
    go true e by_q by_p = ap (λ b. keep (Some k) (parts_in (keep (kept_of b q p) qs))) e ∙ by_q ∙ same_lowest k p q qs (is_lower p k) true (is_lower q k) e refl refl ∙ at (is_lower p k) true (sym e)
      where
        at : (x y : Bool) → y ≡ is_lower q p → keep (if x then kept_of y q p else kept_of (is_lower q k) q k) qs ≡ keep (kept_of x p k) (q ∷ qs)
        at true y same = ap (λ b. keep (kept_of b q p) qs) same
        at false y same = refl
    go false e by_q by_p = ap (λ b. keep (Some k) (parts_in (keep (kept_of b q p) qs))) e ∙ by_p ∙ same_lowest k p q qs (is_lower p k) false (is_lower q k) e refl refl ∙ at (is_lower p k) false (sym e)
      where
        at : (x y : Bool) → y ≡ is_lower q p → keep (if x then kept_of y q p else kept_of (is_lower q k) q k) qs ≡ keep (kept_of x p k) (q ∷ qs)
        at true y same = ap (λ b. keep (kept_of b q p) qs) same
        at false y same = refl

alone : (o : Option Part) → keep None (parts_in o) ≡ o
alone None = refl
alone (Some p) = refl

pub keep_kept : (k : Option Part) (qs : List Part) → keep k (parts_in (keep None qs)) ≡ keep k qs
keep_kept None qs = alone (keep None qs)
keep_kept (Some k) [] = refl
keep_kept (Some k) (q ∷ qs) = from_one k q qs

-- ---- what is kept is the lowest

lower_than : (p q k : Part) → is_lower q k ≡ true → is_lower p k ≡ false → is_lower q p ≡ true
lower_than p q k e f = lower_numbers (cause_number p.cause) (cause_number q.cause) (cause_number k.cause) e f
  where
    lower_numbers : (a b c : ℕ) → nat_lt b c ≡ true → nat_lt a c ≡ false → nat_lt b a ≡ true
    lower_numbers a b c e f = grind (arith, common_steps)

any_lower : (p k : Part) (ps : List Part) → is_lower p k ≡ false → list_any (λ q. is_lower q k) ps ≡ true → list_any (λ q. is_lower q p) ps ≡ true
any_lower p k [] f e = absurd cc
any_lower p k (q ∷ ps) f e = go (any_lower p k ps f) (is_lower q k) refl
  where
    go : (list_any (λ q. is_lower q k) ps ≡ true → list_any (λ q. is_lower q p) ps ≡ true) → (b : Bool) → is_lower q k ≡ b → list_any (λ q. is_lower q p) (q ∷ ps) ≡ true
    go more true is = ap (λ b. b || list_any (λ q. is_lower q p) ps) (lower_than p q k is f)
    go more false is = ap (λ b. is_lower q p || b) (more (ap (λ b. b || list_any (λ q. is_lower q k) ps) (sym is) ∙ e)) ∙ or-true (is_lower q p)

-- a part that is kept stays, unless a lower one follows
keeps : (k : Part) (ps : List Part) → keep (Some k) ps ≡ (if list_any (λ q. is_lower q k) ps then first_lowest ps else Some k)
keeps k [] = refl
keeps k (p ∷ ps) = go (keeps p ps) (keeps k ps) (is_lower p k) refl (list_any (λ q. is_lower q k) ps) refl
  where
    go : keep (Some p) ps ≡ first_lowest (p ∷ ps) → keep (Some k) ps ≡ (if list_any (λ q. is_lower q k) ps then first_lowest ps else Some k)
        → (b : Bool) → is_lower p k ≡ b → (any : Bool) → list_any (λ q. is_lower q k) ps ≡ any
        → keep (if b then Some p else Some k) ps ≡ (if b || list_any (λ q. is_lower q k) ps then first_lowest (p ∷ ps) else Some k)
    go by_p by_k true is any e = by_p
    go by_p by_k false is true e =
        by_k ∙ ap (λ b. if b then first_lowest ps else Some k) e ∙ sym (ap (λ b. if b then first_lowest ps else Some p) (any_lower p k ps is e)) ∙ sym (ap (λ b. if b then first_lowest (p ∷ ps) else Some k) e)
    go by_p by_k false is false e = by_k ∙ ap (λ b. if b then first_lowest ps else Some k) e ∙ sym (ap (λ b. if b then first_lowest (p ∷ ps) else Some k) e)

pub keeps_lowest : (ps : List Part) → keep None ps ≡ first_lowest ps
keeps_lowest [] = refl
keeps_lowest (p ∷ ps) = keeps p ps
