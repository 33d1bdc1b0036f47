-- What lists have at a place.
use Rattle.std.proofs.Common.{◌≡◌, ◌⊎◌, inl, inr, ℕ, zero, suc, ◌+◌, ◌-◌, ◌≤◌, List, [], ◌∷◌, ◌++◌, length, map, Contains, Some, refl, sym, ap, ◌∙◌, arith}
use Rattle.std.specs.Prelude.{slice_get}
use Rattle.std.specs.List.{enumerate_from}
use Rattle.std.specs.Option.{option_map}
use Rattle.std.proofs.lemmas.Option.{slice_get-map, slice_get-get_or, slice_get_within, get_or_from_slice_get}

-- what stands in a list stands at some place
pub at_some_place : {X : Type 0} (xs : List X) (x : X) → Contains xs x → (i : ℕ) × (slice_get xs i ≡ Some x)
at_some_place xs x c = (c.0, slice_get-get_or xs c.0 x c.1 ∙ ap Some c.2)

pub in_the_list : {X : Type 0} (xs : List X) (i : ℕ) (x : X) → slice_get xs i ≡ Some x → Contains xs x
in_the_list xs i x at = (i, slice_get_within xs i x at, get_or_from_slice_get xs i x x at)

pub record Mapped {X Y : Type 0} (f : X → Y) (xs : List X) (i : ℕ) (y : Y) : Type 0 where
  pub from : X
  pub at : slice_get xs i ≡ Some from
  pub is : f from ≡ y

-- what a mapped list has
pub mapped : {X Y : Type 0} (f : X → Y) (xs : List X) (i : ℕ) (y : Y) → slice_get (map f xs) i ≡ Some y → Mapped f xs i y
mapped f [] i y e = absurd cc
mapped f (x ∷ xs) zero y e = record { from = x; at = refl; is = cc }
mapped f (x ∷ xs) (suc i) y e = let m = mapped f xs i y e in record { from = m.from; at = m.at; is = m.is }

pub mapped_at : {X Y : Type 0} (f : X → Y) (xs : List X) (i : ℕ) (x : X) → slice_get xs i ≡ Some x → slice_get (map f xs) i ≡ Some (f x)
mapped_at f xs i x at = slice_get-map f xs i ∙ ap (option_map f) at

-- what a numbered list has
pub numbered : {X : Type 0} (b : ℕ) (xs : List X) (i : ℕ) (p : ℕ × X) → slice_get (enumerate_from b xs) i ≡ Some p → (p.0 ≡ b + i) × (slice_get xs i ≡ Some p.1)
numbered b [] i p e = absurd cc
numbered b (x ∷ xs) zero p e = let same : (b, x) ≡ p = cc in (ap (λ q. q.0) (sym same) ∙ omega arith, ap (λ q. Some q.1) same)
numbered b (x ∷ xs) (suc i) p e = let rest = numbered (b + 1) xs i p e in (omega (arith, rest.0), rest.1)

pub numbered_at : {X : Type 0} (b : ℕ) (xs : List X) (i : ℕ) (x : X) → slice_get xs i ≡ Some x → slice_get (enumerate_from b xs) i ≡ Some (b + i, x)
numbered_at b [] i x e = absurd cc
numbered_at b (y ∷ xs) zero x e = let n : b ≡ b + 0 = omega arith in let same : y ≡ x = cc in λ i. Some (n i, same i)
numbered_at b (y ∷ xs) (suc i) x e = let n : b + 1 + i ≡ b + suc i = omega arith in numbered_at (b + 1) xs i x e ∙ ap (λ k. Some (k, x)) n

-- what two lists have together
pub appended : {X : Type 0} (xs ys : List X) (i : ℕ) (x : X) → slice_get (xs ++ ys) i ≡ Some x → (slice_get xs i ≡ Some x) ⊎ ((length xs ≤ i) × (slice_get ys (i - length xs) ≡ Some x))
appended [] ys i x e = let n : i ≡ i - 0 = omega arith in inr (omega arith, ap (slice_get ys) (sym n) ∙ e)
appended (y ∷ xs) ys zero x e = inl e
appended (y ∷ xs) ys (suc i) x e = go (appended xs ys i x e)
  where
    go : (slice_get xs i ≡ Some x) ⊎ ((length xs ≤ i) × (slice_get ys (i - length xs) ≡ Some x))
        → (slice_get xs i ≡ Some x) ⊎ ((suc (length xs) ≤ suc i) × (slice_get ys (suc i - suc (length xs)) ≡ Some x))
    go (inl at) = inl at
    go (inr at) = let n : suc i - suc (length xs) ≡ i - length xs = omega arith in inr (omega (arith, at.0), ap (slice_get ys) n ∙ at.1)

pub at_left : {X : Type 0} (xs ys : List X) (i : ℕ) (x : X) → slice_get xs i ≡ Some x → slice_get (xs ++ ys) i ≡ Some x
at_left [] ys i x e = absurd cc
at_left (y ∷ xs) ys zero x e = e
at_left (y ∷ xs) ys (suc i) x e = at_left xs ys i x e

pub at_right : {X : Type 0} (xs ys : List X) (i : ℕ) (x : X) → slice_get ys i ≡ Some x → slice_get (xs ++ ys) (length xs + i) ≡ Some x
at_right [] ys i x e = let n : 0 + i ≡ i = omega arith in ap (slice_get ys) n ∙ e
at_right (y ∷ xs) ys i x e = let n : suc (length xs) + i ≡ suc (length xs + i) = omega arith in ap (slice_get (y ∷ xs ++ ys)) n ∙ at_right xs ys i x e
