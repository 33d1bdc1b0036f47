-- Names by first appearance: they are the names of a list, each once, in the order in which they appear.
use Rattle.std.proofs.Common.{◌≡◌, ◌⊎◌, inl, inr, ℕ, zero, suc, ◌+◌, ◌<◌, Bool, true, false, not, cond, List, [], ◌∷◌, get_or, filter, All, Contains, refl, sym, ap, ◌∙◌, subst, ⊎_elim, arith}
use Rattle.std.specs.Prelude.{if◌then◌else◌}
use Rattle.std.specs.List.{AllPairs}
use Rattle.std.specs.Str.{bytes_eq}
use Rattle.std.proofs.lemmas.List.Elements.{All-nil, All-cons, All-filter, All-weaker, All-contains, filter_passes, Contains-append_right, Contains-append_cases}
use Rattle.std.proofs.lemmas.List.Kept.{AllPairs-cons, AllPairs-filter}
use Rattle.std.proofs.lemmas.Bool.{not-true, not_from_false}
use Rattle.std.proofs.lemmas.Slice.Eq.{bytes_eq-Decides}
use Rattle.program77.specs.Typing.{first_seen}
use Rattle.definition_laws.specs.Storage.{first_place}

pub first_of : {X : Type 0} (x : X) (xs : List X) → Contains (x ∷ xs) x
first_of x xs = (0, omega arith, refl)

pub only_of : {X : Type 0} (x y : X) → Contains (x ∷ []) y → x ≡ y
only_of x y (zero, lt, is) = is
only_of x y (suc k, lt, is) = absurd (omega arith)

-- the names that aren't the first
abbrev differs : List ℕ → List ℕ → Bool
differs x y = not (bytes_eq x y)

filtered : (p : List ℕ → Bool) (xs : List (List ℕ)) (x : List ℕ) → Contains xs x → p x ≡ true → Contains (filter p xs) x
filtered p [] x c e = absurd (omega (arith, c.1))
filtered p (y ∷ ys) x c e = go (p y) refl (Contains-append_cases (y ∷ []) ys x c) (λ later. filtered p ys x later e)
  where
    go : (b : Bool) → p y ≡ b → Contains (y ∷ []) x ⊎ Contains ys x → (Contains ys x → Contains (filter p ys) x) → Contains (cond b (y ∷ filter p ys) (filter p ys)) x
    go true is (inl here) rest = subst (λ z. Contains (y ∷ filter p ys) z) (only_of y x here) (first_of y (filter p ys))
    go true is (inr later) rest = Contains-append_right (y ∷ []) (filter p ys) x (rest later)
    go false is (inl here) rest = let same : false ≡ true = sym is ∙ ap p (only_of y x here) ∙ e in absurd cc
    go false is (inr later) rest = rest later

-- a name of the list is among those that are seen first
pub seen : (xs : List (List ℕ)) (x : List ℕ) → Contains xs x → Contains (first_seen xs) x
seen [] x c = absurd (omega (arith, c.1))
seen (y ∷ ys) x c = ⊎_elim (λ here. at_first (only_of y x here)) (λ later. go (bytes_eq y x) refl (seen ys x later)) (Contains-append_cases (y ∷ []) ys x c)
  where
    at_first : y ≡ x → Contains (y ∷ filter (differs y) (first_seen ys)) x
    at_first same = subst (λ z. Contains (y ∷ filter (differs y) (first_seen ys)) z) same (first_of y (filter (differs y) (first_seen ys)))

    go : (b : Bool) → bytes_eq y x ≡ b → Contains (first_seen ys) x → Contains (y ∷ filter (differs y) (first_seen ys)) x
    go true is later = at_first ((bytes_eq-Decides y x).0 is)
    go false is later = Contains-append_right (y ∷ []) (filter (differs y) (first_seen ys)) x (filtered (differs y) (first_seen ys) x later (not_from_false (bytes_eq y x) is))

-- and no others are
all_there : (xs : List (List ℕ)) → All (Contains xs) (first_seen xs)
all_there [] = All-nil (Contains [])
all_there (x ∷ xs) =
    All-cons (Contains (x ∷ xs)) x (filter (differs x) (first_seen xs)) (first_of x xs)
    (All-weaker (Contains xs) (Contains (x ∷ xs)) (λ y c. Contains-append_right (x ∷ []) xs y c) (filter (differs x) (first_seen xs)) (All-filter (differs x) (Contains xs) (first_seen xs) (all_there xs)))

pub from_seen : (xs : List (List ℕ)) (x : List ℕ) → Contains (first_seen xs) x → Contains xs x
from_seen xs x c = All-contains (Contains xs) (first_seen xs) x (all_there xs) c

-- a name that isn't the first has its place among the others
later_place : (x y : List ℕ) (xs : List (List ℕ)) → differs x y ≡ true → first_place (x ∷ xs) y ≡ first_place xs y + 1
later_place x y xs e = ap (λ b. if b then 0 else first_place xs y + 1) (not-true (bytes_eq x y) e)

own_place : (x : List ℕ) (xs : List (List ℕ)) → first_place (x ∷ xs) x ≡ 0
own_place x xs = ap (λ b. if b then 0 else first_place xs x + 1) ((bytes_eq-Decides x x).1 refl)

-- they are in order
pub in_order : (xs : List (List ℕ)) → AllPairs (λ y z. first_place xs y < first_place xs z) (first_seen xs)
in_order [] = λ i j d lt within. absurd (omega arith)
in_order (x ∷ xs) =
    let others = filter (differs x) (first_seen xs) in
    let passed : All (λ y. differs x y ≡ true) others = filter_passes (differs x) (first_seen xs) in
    let kept : AllPairs (λ y z. first_place xs y < first_place xs z) others = AllPairs-filter (λ y z. first_place xs y < first_place xs z) (differs x) (first_seen xs) (in_order xs) in
    AllPairs-cons (λ y z. first_place (x ∷ xs) y < first_place (x ∷ xs) z) x others
    (All-weaker (λ y. differs x y ≡ true) (λ y. first_place (x ∷ xs) x < first_place (x ∷ xs) y) (λ y e. omega (arith, own_place x xs, later_place x y xs e)) others passed)
    (λ i j d lt within.
    omega (arith, kept i j d lt within, later_place x (get_or others i d) xs (passed i d (omega arith)), later_place x (get_or others j d) xs (passed j d within)))
