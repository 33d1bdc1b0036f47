-- Sets of names that grow.
use Rattle.std.proofs.Common.{◌≡◌, ℕ, Bool, true, false, not, ◌||◌, List, [], ◌∷◌, ◌++◌, map, filter, if◌then◌else◌, refl, sym, ap, ◌∙◌}
use Rattle.std.specs.List.{list_any}
use Rattle.std.specs.Str.{bytes_eq}
use Rattle.std.specs.Borrow.{Bor}
use Rattle.std.proofs.Math.Bool.{or-true, or-false, or_assoc}
use Rattle.std.proofs.lemmas.List.{map-append, take_more}
use Rattle.std.proofs.lemmas.List.Sums.{fold-append}
use Rattle.std.proofs.lemmas.List.Folds.{list_any-append}
use Rattle.std.proofs.lemmas.List.Elements.{filter-append, filter_agree}
use Rattle.std.proofs.lemmas.Slice.Eq.{bytes_eq-Decides}
use Rattle.order77.specs.Names.{is_among}
use Rattle.order77.specs.NameSets.{with_one, with_names, lent}

-- a name is among those that are lent where the set has it
pub among_lent : (x : List ℕ) (ks : List (Bor (List ℕ))) → list_any (bytes_eq x) (lent ks) ≡ list_any (λ (k : Bor (List ℕ)). bytes_eq x k.now) ks
among_lent x [] = refl
among_lent x (k ∷ ks) = ap (λ b. bytes_eq x k.now || b) (among_lent x ks)

-- the set with one more
pub lent_one : (x : Bor (List ℕ)) (ks : List (Bor (List ℕ)))
    → lent (if list_any (λ (k : Bor (List ℕ)). bytes_eq x.now k.now) ks then ks else ks ++ x ∷ []) ≡ with_one bytes_eq (lent ks) x.now
lent_one x ks = go (list_any (λ (k : Bor (List ℕ)). bytes_eq x.now k.now) ks) (among_lent x.now ks)
  where
    go : (b : Bool) → list_any (bytes_eq x.now) (lent ks) ≡ b → lent (if b then ks else ks ++ x ∷ []) ≡ with_one bytes_eq (lent ks) x.now
    go true e = sym (ap (λ c. if c then lent ks else lent ks ++ x.now ∷ []) e)
    go false e = map-append (λ (k : Bor (List ℕ)). k.now) ks (x ∷ []) ∙ sym (ap (λ c. if c then lent ks else lent ks ++ x.now ∷ []) e)

-- names after others
pub with_names_append : (start xs ys : List (List ℕ)) → with_names start (xs ++ ys) ≡ with_names (with_names start xs) ys
with_names_append start xs ys = fold-append (with_one bytes_eq) start xs ys

pub ruleset name_steps = (with_names_append, take_more, map-append, filter-append)

-- whether one of the parts of parts passes a test
pub any_mapped : {A B C : Type 0} (p : C → Bool) (f : B → C) (g : A → B) (xs : List A) → list_any p (map f (map g xs)) ≡ list_any (λ x. p (f (g x))) xs
any_mapped p f g [] = refl
any_mapped p f g (x ∷ xs) = ap (λ b. p (f (g x)) || b) (any_mapped p f g xs)

-- ---- what is among names that grew

-- one more, which may stand there
pub among_one : {A : Type 0} (eq : A → A → Bool) → ((x y : A) → eq x y ≡ true → x ≡ y) → (xs : List A) (x y : A) → list_any (eq y) (with_one eq xs x) ≡ (list_any (eq y) xs || eq y x)
among_one eq same xs x y = go (list_any (eq x) xs) refl (eq y x) refl
  where
    go : (a : Bool) → list_any (eq x) xs ≡ a → (b : Bool) → eq y x ≡ b → list_any (eq y) (with_one eq xs x) ≡ (list_any (eq y) xs || b)
    go true e true f =
        ap (λ c. list_any (eq y) (if c then xs else xs ++ x ∷ [])) e ∙ ap (λ z. list_any (eq z) xs) (same y x f) ∙ e ∙ sym (or-true (list_any (eq y) xs))
    go true e false f = ap (λ c. list_any (eq y) (if c then xs else xs ++ x ∷ [])) e ∙ sym (or-false (list_any (eq y) xs))
    go false e b f =
        ap (λ c. list_any (eq y) (if c then xs else xs ++ x ∷ [])) e ∙ list_any-append (eq y) xs (x ∷ []) ∙ ap (λ c. list_any (eq y) xs || c) (or-false (eq y x) ∙ f)

among_with : (names xs : List (List ℕ)) (y : List ℕ) → is_among (with_names names xs) y ≡ (is_among names y || is_among xs y)
among_with names [] y = sym (or-false (is_among names y))
among_with names (x ∷ xs) y =
    among_with (with_one bytes_eq names x) xs y ∙ ap (λ b. b || is_among xs y) (among_one bytes_eq (λ a b. (bytes_eq-Decides a b).0) names x y) ∙ or_assoc (is_among names y) (bytes_eq y x) (is_among xs y)

-- the set that grew from nothing has what was added
pub among_all : (xs : List (List ℕ)) (y : List ℕ) → is_among (with_names [] xs) y ≡ is_among xs y
among_all xs y = among_with [] xs y

-- names but the dummies, by the set of these
pub others : (nothing dummies held found names : List (List ℕ)) → nothing ≡ [] → held ≡ with_names nothing dummies → found ≡ names
    → filter (λ y. not (is_among held y)) found ≡ filter (λ y. not (is_among dummies y)) names
others nothing dummies held found names none grown same =
    ap (filter (λ y. not (is_among held y))) same
    ∙ filter_agree (λ y. not (is_among held y)) (λ y. not (is_among dummies y)) (λ y. ap (λ (l : List (List ℕ)). not (is_among l y)) (grown ∙ ap (λ l. with_names l dummies) none) ∙ ap not (among_all dummies y)) names
