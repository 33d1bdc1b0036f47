-- Labels that are added one after another to none are the different ones.
use Rattle.std.proofs.Common.{◌≡◌, ℕ, Bool, true, false, not, ◌||◌, ◌&&◌, List, [], ◌∷◌, ◌++◌, filter, if◌then◌else◌, refl, sym, ap, ◌∙◌, append_assoc, append-nil}
use Rattle.std.specs.Prelude.{◌==◌}
use Rattle.std.specs.List.{list_any}
use Rattle.std.proofs.lemmas.Bool.{eqb-true}
use Rattle.std.proofs.lemmas.List.Sums.{fold-append}
use Rattle.std.proofs.lemmas.List.Elements.{filter_agree}
use Rattle.unit77.specs.Units.{different}
use Rattle.order77.specs.NameSets.{with_one, with_labels}
use Rattle.order77.proofs.NameLemmas.{among_one}

abbrev same : ℕ → ℕ → Bool
same x y = x == y

-- it stands in none of the labels
abbrev lacks : List ℕ → ℕ → Bool
lacks ls y = not (list_any (same y) ls)

abbrev differs : ℕ → ℕ → Bool
differs x y = not (y == x)

filter_both : (p q : ℕ → Bool) (xs : List ℕ) → filter p (filter q xs) ≡ filter (λ x. q x && p x) xs
filter_both p q [] = refl
filter_both p q (x ∷ xs) = go (q x) (filter_both p q xs)
  where
    go : (b : Bool) → filter p (filter q xs) ≡ filter (λ x. q x && p x) xs
        → filter p (if b then x ∷ filter q xs else filter q xs) ≡ (if b && p x then x ∷ filter (λ x. q x && p x) xs else filter (λ x. q x && p x) xs)
    go true e = ap (λ l. if p x then x ∷ l else l) e
    go false e = e

not_either : (a b : Bool) → not (a || b) ≡ (not b && not a)
not_either true true = refl
not_either true false = refl
not_either false true = refl
not_either false false = refl

lacks_one : (ls : List ℕ) (x y : ℕ) → lacks (with_one same ls x) y ≡ (differs x y && lacks ls y)
lacks_one ls x y = ap not (among_one same eqb-true ls x y) ∙ not_either (list_any (same y) ls) (y == x)

-- a label joins the others, or stands there
joins : (ls : List ℕ) (x : ℕ) (more : List ℕ) (b : Bool) → list_any (same x) ls ≡ b → with_one same ls x ++ more ≡ ls ++ (if lacks ls x then x ∷ more else more)
joins ls x more true e = ap (λ c. (if c then ls else ls ++ x ∷ []) ++ more) e ∙ sym (ap (λ c. ls ++ (if not c then x ∷ more else more)) e)
joins ls x more false e =
    ap (λ c. (if c then ls else ls ++ x ∷ []) ++ more) e ∙ append_assoc ls (x ∷ []) more ∙ sym (ap (λ c. ls ++ (if not c then x ∷ more else more)) e)

grown : (ls xs : List ℕ) → with_labels ls xs ≡ ls ++ filter (lacks ls) (different xs)
grown ls [] = sym (append-nil ls)
grown ls (x ∷ xs) =
    grown (with_one same ls x) xs
    ∙ ap (λ l. with_one same ls x ++ l) (filter_agree (lacks (with_one same ls x)) (λ y. differs x y && lacks ls y) (lacks_one ls x) (different xs) ∙ sym (filter_both (lacks ls) (differs x) (different xs)))
    ∙ joins ls x (filter (lacks ls) (filter (differs x) (different xs))) (list_any (same x) ls) refl

filter_all : (xs : List ℕ) → filter (lacks []) xs ≡ xs
filter_all [] = refl
filter_all (x ∷ xs) = ap (λ l. x ∷ l) (filter_all xs)

-- the set that grew from nothing has the different ones
pub labels_different : (xs : List ℕ) → with_labels [] xs ≡ different xs
labels_different xs = grown [] xs ∙ filter_all (different xs)

-- labels after others
pub with_labels_append : (start xs ys : List ℕ) → with_labels start (xs ++ ys) ≡ with_labels (with_labels start xs) ys
with_labels_append start xs ys = fold-append (with_one same) start xs ys
