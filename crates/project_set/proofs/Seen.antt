-- Tests that all items of a list pass.
use Rattle.std.proofs.Common.{◌≡◌, ℕ, zero, suc, Bool, true, false, not, ◌||◌, List, [], ◌∷◌, take, refl}
use Rattle.std.specs.List.{list_all}
use Rattle.std.specs.Str.{bytes_eq}
use Rattle.std.proofs.lemmas.Bool.{and_from, and_parts}
use Rattle.program77.specs.Typing.{first_seen}
use Rattle.tree90.specs.Proper.{is_among, are_distinct}
use Rattle.project_set.proofs.Names.{all_filtered, Distinct}

-- a test that follows from one that all pass
pub all_implied : {X : Type 0} (p q : X → Bool) → ((x : X) → p x ≡ true → q x ≡ true) → (xs : List X) → list_all p xs ≡ true → list_all q xs ≡ true
all_implied p q f [] e = refl
all_implied p q f (x ∷ xs) e = let b = and_parts (p x) (list_all p xs) e in and_from (q x) (list_all q xs) (f x b.0) (all_implied p q f xs b.1)

-- what all pass, the first ones pass
pub all_taken : {X : Type 0} (p : X → Bool) (n : ℕ) (xs : List X) → list_all p xs ≡ true → list_all p (take n xs) ≡ true
all_taken p zero xs e = refl
all_taken p (suc n) [] e = refl
all_taken p (suc n) (x ∷ xs) e = let b = and_parts (p x) (list_all p xs) e in and_from (p x) (list_all p (take n xs)) b.0 (all_taken p n xs b.1)

-- what all names pass, those by first appearance pass
pub all_first : (p : List ℕ → Bool) (xs : List (List ℕ)) → list_all p xs ≡ true → list_all p (first_seen xs) ≡ true
all_first p [] e = refl
all_first p (x ∷ xs) e =
    let b = and_parts (p x) (list_all p xs) e in
    and_from (p x) _ b.0 (all_filtered (λ y. not (bytes_eq x y)) p (first_seen xs) (all_first p xs b.1))

-- ---- names among others

-- a name that differs from all isn't among them
pub apart_from_all : (x : List ℕ) (xs : List (List ℕ)) → list_all (λ y. not (bytes_eq x y)) xs ≡ true → not (is_among xs x) ≡ true
apart_from_all x [] e = refl
apart_from_all x (y ∷ ys) e =
    let b = and_parts (not (bytes_eq x y)) (list_all (λ z. not (bytes_eq x z)) ys) e in
    go (bytes_eq x y) b.0 (apart_from_all x ys b.1)
  where
    go : (c : Bool) → not c ≡ true → not (is_among ys x) ≡ true → not ((c || is_among ys x)) ≡ true
    go true e f = e
    go false e f = f

-- names that stand once each are distinct
pub are_distinct_names : (xs : List (List ℕ)) → Distinct xs → are_distinct xs ≡ true
are_distinct_names [] d = refl
are_distinct_names (x ∷ xs) d = and_from (not (is_among xs x)) (are_distinct xs) (apart_from_all x xs d.0) (are_distinct_names xs d.1)
