-- Sets of names and of labels that grow as statements are gone through.
use Rattle.std.specs.Prelude.{◌==◌, ℕ, Bool, List, [], ◌∷◌, ◌++◌, map, fold, if◌then◌else◌}
use Rattle.std.specs.List.{list_any}
use Rattle.std.specs.Str.{bytes_eq}
use Rattle.std.specs.Borrow.{Bor}
use Rattle.order77.specs.declared.names.Names.{Names}
use Rattle.order77.specs.declared.names.Labels.{Labels}

-- one more joins the others at their end, unless an equal one stands there
abbrev pub with_one : {A : Type 0} → (A → A → Bool) → List A → A → List A
with_one eq xs x = if list_any (eq x) xs then xs else xs ++ x ∷ []

-- names that are added one after another
abbrev pub with_names : List (List ℕ) → List (List ℕ) → List (List ℕ)
with_names names xs = fold (with_one bytes_eq) names xs

-- labels that are added one after another
abbrev pub with_labels : List ℕ → List ℕ → List ℕ
with_labels labels xs = fold (with_one (λ x y. x == y)) labels xs

-- the names that are lent, by their characters
abbrev pub lent : List (Bor (List ℕ)) → List (List ℕ)
lent keys = map (λ (key : Bor (List ℕ)). key.now) keys

abbrev pub names_in : Names → List (List ℕ)
names_in set = lent set.keys.keys

abbrev pub labels_in : Labels → List ℕ
labels_in set = set.keys.keys
