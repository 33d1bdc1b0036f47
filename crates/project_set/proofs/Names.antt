-- Names in the order of their first appearance: where each stands, and that none stands twice.
use Rattle.std.proofs.Common.{◌≡◌, ◌≢◌, ℕ, zero, suc, Bool, true, false, not, cond, List, [], ◌∷◌, filter, Option, Some, None, refl, sym, ap, ◌∙◌, subst, arith}
use Rattle.std.specs.Prelude.{slice_get, if◌then◌else◌}
use Rattle.std.specs.List.{list_all}
use Rattle.std.specs.Option.{option_map}
use Rattle.std.specs.Str.{bytes_eq}
use Rattle.std.proofs.lemmas.Slice.Eq.{bytes_eq-Decides}
use Rattle.std.proofs.lemmas.Bool.{and_from, and_parts, not-true}
use Rattle.program77.specs.Typing.{first_seen}

-- the test of bytes holds of equal ones
pub bytes_same : (a b : List ℕ) → a ≡ b → bytes_eq a b ≡ true
bytes_same a b e = grind (arith, bytes_eq-Decides)

-- the test of bytes fails of others
pub bytes_differ : (a b : List ℕ) → a ≢ b → bytes_eq a b ≡ false
bytes_differ a b e = grind (arith, bytes_eq-Decides)

-- no name stands twice
abbrev pub Distinct : List (List ℕ) → Type 0
Distinct [] = Unit {0}
Distinct (x ∷ xs) = (list_all (λ y. not (bytes_eq x y)) xs ≡ true) × Distinct xs

-- what all of some items pass, those that are kept pass
pub all_filtered : {X : Type 0} (p q : X → Bool) (xs : List X) → list_all q xs ≡ true → list_all q (filter p xs) ≡ true
all_filtered p q [] e = refl
all_filtered p q (x ∷ xs) e = let b = and_parts (q x) (list_all q xs) e in go (p x) (all_filtered p q xs b.1) b.0
  where
    go : (c : Bool) → list_all q (filter p xs) ≡ true → q x ≡ true → list_all q (cond c (x ∷ filter p xs) (filter p xs)) ≡ true
    go true rest here = and_from (q x) (list_all q (filter p xs)) here rest
    go false rest here = rest

-- what is kept passes the test
passes : (p : List ℕ → Bool) (xs : List (List ℕ)) → list_all p (filter p xs) ≡ true
passes p [] = refl
passes p (x ∷ xs) = go (p x) refl (passes p xs)
  where
    go : (c : Bool) → p x ≡ c → list_all p (filter p xs) ≡ true → list_all p (cond c (x ∷ filter p xs) (filter p xs)) ≡ true
    go true is rest = and_from (p x) (list_all p (filter p xs)) is rest
    go false is rest = rest

-- names of which some are left out are distinct
distinct_filtered : (p : List ℕ → Bool) (xs : List (List ℕ)) → Distinct xs → Distinct (filter p xs)
distinct_filtered p [] d = tt
distinct_filtered p (x ∷ xs) d = go (p x) (distinct_filtered p xs d.1)
  where
    go : (c : Bool) → Distinct (filter p xs) → Distinct (cond c (x ∷ filter p xs) (filter p xs))
    go true rest = (all_filtered p (λ y. not (bytes_eq x y)) xs d.0, rest)
    go false rest = rest

-- names by first appearance are distinct
pub distinct_first_seen : (xs : List (List ℕ)) → Distinct (first_seen xs)
distinct_first_seen [] = tt
distinct_first_seen (x ∷ xs) =
    (passes (λ y. not (bytes_eq x y)) (first_seen xs), distinct_filtered (λ y. not (bytes_eq x y)) (first_seen xs) (distinct_first_seen xs))

-- where a name stands
abbrev pub place_of : List (List ℕ) → List ℕ → Option ℕ
place_of [] x = None
place_of (y ∷ ys) x = if bytes_eq y x then Some 0 else option_map suc (place_of ys x)

-- what stands somewhere passes the test that all pass
pub all_at : (p : List ℕ → Bool) (xs : List (List ℕ)) (i : ℕ) (x : List ℕ) → list_all p xs ≡ true → slice_get xs i ≡ Some x → p x ≡ true
all_at p [] i x all at = absurd cc
all_at p (y ∷ ys) zero x all at = let b = and_parts (p y) (list_all p ys) all in let same : y ≡ x = cc in subst (λ z. p z ≡ true) same b.0
all_at p (y ∷ ys) (suc i) x all at = let b = and_parts (p y) (list_all p ys) all in all_at p ys i x b.1 at

-- a name stands where it is found
pub place_at : (names : List (List ℕ)) (i : ℕ) (x : List ℕ) → Distinct names → slice_get names i ≡ Some x → place_of names x ≡ Some i
place_at [] i x d at = absurd cc
place_at (y ∷ ys) zero x d at =
    let same : y ≡ x = cc in
    ap (λ b. if b then Some 0 else option_map suc (place_of ys x)) (bytes_same y x same)
place_at (y ∷ ys) (suc i) x d at =
    let apart : bytes_eq y x ≡ false = not-true (bytes_eq y x) (all_at (λ z. not (bytes_eq y z)) ys i x d.0 at) in
    ap (λ b. if b then Some 0 else option_map suc (place_of ys x)) apart ∙ ap (option_map suc) (place_at ys i x d.1 at)

-- a name stands at one place alone
pub one_place : (names : List (List ℕ)) (i j : ℕ) (x : List ℕ) → Distinct names → slice_get names i ≡ Some x → slice_get names j ≡ Some x → i ≡ j
one_place names i j x d at_i at_j =
    let e : Some i ≡ Some j = sym (place_at names i x d at_i) ∙ place_at names j x d at_j in cc
