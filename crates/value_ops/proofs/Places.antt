-- The place where a text begins in another.
use Rattle.std.proofs.Common.{◌≡◌, ◌≢◌, ◌++◌, refl, sym, ap, ◌∙◌, ℕ, zero, suc, ◌+◌, ◌<◌, ◌≤◌, List, [], ◌∷◌, length, drop, Bool, true, false, if◌then◌else◌, ◌==◌, nat_eq, arith}
use Rattle.std.proofs.lemmas.Bool.{false≢true}
use Rattle.std.proofs.lemmas.List.{at_drop_more, at_drop_all}
use Rattle.std.proofs.lemmas.Bool.Decides.{nat_tests, Decides-eqb}
use Rattle.std.proofs.lemmas.Slice.Eq.{starts_is}
use Rattle.std.specs.List.{starts_with}
use Rattle.text_base.specs.Operations.{place_in, further}
use Rattle.value_ops.specs.Laws.{BeginsAt, IndexIsPlace, IndexIsFirst, ZeroIsNowhere}

-- some places further, where there is one
abbrev pub shifted : ℕ → ℕ → ℕ
shifted zero place = place
shifted (suc n) place = further (shifted n place)

further_out : (n place : ℕ) → shifted n (further place) ≡ further (shifted n place)
further_out zero place = refl
further_out (suc n) place = ap further (further_out n place)

shifted_none : (n : ℕ) → shifted n 0 ≡ 0
shifted_none zero = refl
shifted_none (suc n) = ap further (shifted_none n)

shifted_one : (n : ℕ) → shifted n 1 ≡ suc n
shifted_one zero = refl
shifted_one (suc n) = ap further (shifted_one n)

-- a text that begins with the part has it at the first place
begun : (text part : List ℕ) → starts_with nat_eq text part ≡ true → place_in text part ≡ 1
begun [] part b = ap (λ b. if b then 1 else 0) b
begun (c ∷ t) part b = ap (λ b. if b then 1 else further (place_in t part)) b

pub nothing : (text part : List ℕ) → true ≡ (length part == 0) → 1 ≡ place_in text part
nothing [] [] e = refl
nothing (c ∷ t) [] e = refl
nothing text (d ∷ part) e = absurd (grind (arith, nat_tests))

-- the turns of a search from each place in turn
pub here : (text part : List ℕ) (i : ℕ) → starts_with nat_eq (drop i text) part ≡ true → shifted i (place_in (drop i text) part) ≡ i + 1
here text part i b = ap (shifted i) (begun (drop i text) part b) ∙ shifted_one i ∙ omega arith

pub later : (text part : List ℕ) (i : ℕ) → i < length text → starts_with nat_eq (drop i text) part ≡ false
    → shifted i (place_in (drop i text) part) ≡ shifted (i + 1) (place_in (drop (i + 1) text) part)
later text part i h b =
    at_drop_more (λ t. shifted i (place_in t part)) text i 0 h
    ∙ ap (λ b. shifted i (if b then 1 else further (place_in (drop (i + 1) text) part))) (sym (at_drop_more (λ t. starts_with nat_eq t part) text i 0 h) ∙ b)
    ∙ further_out i (place_in (drop (i + 1) text) part)
    ∙ ap (λ n. shifted n (place_in (drop (i + 1) text) part)) (let e : suc i ≡ i + 1 = omega arith in e)

pub nowhere : (text part : List ℕ) (i : ℕ) → length text ≤ i → false ≡ (length part == 0) → shifted i (place_in (drop i text) part) ≡ 0
nowhere text [] i h some = absurd (false≢true some)
nowhere text (c ∷ part) i h some = ap (λ t. shifted i (place_in t (c ∷ part))) (at_drop_all (λ t. t) text i h) ∙ shifted_none i

-- ---- the first place

begins : (s p : List ℕ) → (starts_with nat_eq s p ≡ true → s ≡ p ++ drop (length p) s) × ((rest : List ℕ) → s ≡ p ++ rest → starts_with nat_eq s p ≡ true)
begins s p = starts_is Decides-eqb s p _ refl

abbrev Begins : List ℕ → List ℕ → ℕ → Type 0
Begins text part p = p ≢ 0 → BeginsAt text part p

pub place : IndexIsPlace
place [] part = by (starts_with nat_eq [] part) refl
  where
    by : (b : Bool) → starts_with nat_eq [] part ≡ b → Begins [] part (if b then 1 else 0)
    by true e some = ([], drop (length part) [], (begins [] part).0 e, refl)
    by false e some = absurd (some refl)
place (c ∷ t) part = by (starts_with nat_eq (c ∷ t) part) refl (place_in t part) (place t part)
  where
    by : (b : Bool) → starts_with nat_eq (c ∷ t) part ≡ b → (p : ℕ) → Begins t part p → Begins (c ∷ t) part (if b then 1 else further p)
    by true e p h some = ([], drop (length part) (c ∷ t), (begins (c ∷ t) part).0 e, refl)
    by false e zero h some = absurd (some refl)
    by false e (suc p) h some = let at = h (omega arith) in (c ∷ at.0, at.1, ap (λ t. c ∷ t) at.2, ap suc at.3)

-- the place is there, and no later than where the part begins
bounded : (text part before after : List ℕ) → text ≡ before ++ (part ++ after) → (0 < place_in text part) × (place_in text part ≤ suc (length before))
bounded text part [] after e = let p = begun text part ((begins text part).1 after e) in (omega arith, omega arith)
bounded [] part (b ∷ before) after e = let l : 0 ≡ length (b ∷ (before ++ (part ++ after))) = ap length e in absurd (omega arith)
bounded (c ∷ t) part (b ∷ before) after e = by (starts_with nat_eq (c ∷ t) part) (place_in t part) (bounded t part before after (ap (drop 1) e))
  where
    by : (b : Bool) (p : ℕ) → (0 < p) × (p ≤ suc (length before)) → (0 < (if b then 1 else further p)) × ((if b then 1 else further p) ≤ suc (suc (length before)))
    by true p h = (omega arith, omega arith)
    by false zero h = absurd (omega arith)
    by false (suc p) h = (omega arith, omega arith)

pub first : IndexIsFirst
first text part place at = let h = bounded text part at.0 at.1 at.2 in omega arith

pub nowhere_zero : ZeroIsNowhere
nowhere_zero text part place none at = let h = bounded text part at.0 at.1 at.2 in omega arith
