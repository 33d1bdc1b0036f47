-- Lists of findings that grow, by the parts that they are found at.
use Rattle.std.proofs.Common.{◌≡◌, ℕ, ◌+◌, ◌<◌, List, [], ◌∷◌, ◌++◌, map, length, get_or, take, sym, ap, ◌∙◌, append_assoc, append-nil}
use Rattle.std.specs.Prelude.{Bool, false, flat_map, ◌||◌}
use Rattle.std.specs.Option.{option_map}
use Rattle.std.proofs.Math.Bool.{or_assoc, or-false}
use Rattle.std.proofs.lemmas.List.Sums.{fold-append}
use Rattle.expr_tree.specs.Plain.{expr_of}
use Rattle.tree77.specs.declared.statement.Dimension77.{Dimension77}
use Rattle.std.proofs.lemmas.List.{map-append, take_more}
use Rattle.std.proofs.lemmas.List.Folds.{flat_map-map}
use Rattle.std.proofs.lemmas.Grind.{flat_map-append}
use Rattle.expr_tree.proofs.Equations.{expr_equations}
use Rattle.tree77.proofs.Equations.{listed_equations}
use Rattle.tree77.specs.StatementPlain.{dimension_of, listed_of, listed_items}
use Rattle.tree77.specs.declared.statement.Listed77.{Listed77}
use Rattle.names77.specs.Known.{Known}
use Rattle.implicit_types.specs.declared.items.ItemUse.{ItemUse}
use Rattle.implicit_types.specs.Findings.{Finding}
use Rattle.implicit_types.specs.PartFindings.{listed_findings, listeds_findings, is_apart_listed, are_apart_listeds, is_star, has_no_end}

pub listeds_more : (k : Known) (u : ItemUse) (xs : List Listed77) (x : Listed77) → listeds_findings k u (listed_items (xs ++ x ∷ [])) ≡ listeds_findings k u (listed_items xs) ++ listed_findings k u (listed_of x)
listeds_more k u [] x = append-nil (listed_findings k u (listed_of x))
listeds_more k u (y ∷ ys) x =
    ap (λ l. listed_findings k u (listed_of y) ++ l) (listeds_more k u ys x)
    ∙ sym (append_assoc (listed_findings k u (listed_of y)) (listeds_findings k u (listed_items ys)) (listed_findings k u (listed_of x)))

pub apart_more : (k : Known) (xs : List Listed77) (x : Listed77) → are_apart_listeds k (listed_items (xs ++ x ∷ [])) ≡ (are_apart_listeds k (listed_items xs) || is_apart_listed k (listed_of x))
apart_more k [] x = or-false (is_apart_listed k (listed_of x))
apart_more k (y ∷ ys) x =
    ap (λ b. is_apart_listed k (listed_of y) || b) (apart_more k ys x) ∙ sym (or_assoc (is_apart_listed k (listed_of y)) (are_apart_listeds k (listed_items ys)) (is_apart_listed k (listed_of x)))

-- the step of a loop that asks whether one of the items is apart
pub apart_grown : (k : Known) (xs : List Listed77) (i : ℕ) (x : Listed77) (before here : Bool) → x ≡ get_or xs i x → i < length xs
    → before ≡ are_apart_listeds k (listed_items (take i xs)) → here ≡ is_apart_listed k (listed_of x) → (before || here) ≡ are_apart_listeds k (listed_items (take (i + 1) xs))
apart_grown k xs i x before here is lt e step =
    ap (λ b. b || here) e ∙ ap (λ b. are_apart_listeds k (listed_items (take i xs)) || b) step
    ∙ sym (apart_more k (take i xs) x) ∙ ap (λ y. are_apart_listeds k (listed_items (take i xs ++ y ∷ []))) is ∙ ap (λ ys. are_apart_listeds k (listed_items ys)) (sym (take_more xs i x lt))

pub no_end_more : (ds : List Dimension77) (d : Dimension77) → has_no_end (map dimension_of (ds ++ d ∷ [])) ≡ is_star (option_map expr_of d.lower) (option_map expr_of d.upper)
no_end_more ds d = ap has_no_end (map-append dimension_of ds (d ∷ [])) ∙ fold-append _ false (map dimension_of ds) (dimension_of d ∷ [])

pub mapped_more : {A B C : Type 0} (f : B → List C) (v : A → B) (xs : List A) (x : A) → flat_map f (map v (xs ++ x ∷ [])) ≡ flat_map f (map v xs) ++ f (v x)
mapped_more f v xs x = ap (flat_map f) (map-append v xs (x ∷ [])) ∙ flat_map-append f (map v xs) (v x ∷ []) ∙ ap (λ l. flat_map f (map v xs) ++ l) (append-nil (f (v x)))

-- the step of a loop that adds what one more part has
pub grown : {A : Type 0} (f : List A → List Finding) (g : A → List Finding) → ((xs : List A) (x : A) → f (xs ++ x ∷ []) ≡ f xs ++ g x)
    → (xs : List A) (i : ℕ) (x : A) (start out new : List Finding) → x ≡ get_or xs i x → i < length xs → out ≡ start ++ f (take i xs) → new ≡ out ++ g x → new ≡ start ++ f (take (i + 1) xs)
grown f g more xs i x start out new is lt before step =
    step ∙ ap (λ l. l ++ g x) before ∙ append_assoc start (f (take i xs)) (g x)
    ∙ ap (λ l. start ++ l) (sym (more (take i xs) x) ∙ ap (λ y. f (take i xs ++ y ∷ [])) is ∙ ap f (sym (take_more xs i x lt)))

pub ruleset expr_steps = (expr_equations, append_assoc, append-nil)

pub ruleset part_steps = (mapped_more, take_more, append_assoc, append-nil)

pub ruleset of_parts = (flat_map-map, append_assoc, append-nil)

pub ruleset listed_steps = (listed_equations, append_assoc, append-nil)

-- what is found at parts, by their plain forms
pub found_mapped : {A B : Type 0} (f : Known → B → List Finding) (v : A → B) (k : Known) (xs : List A) → flat_map (f k) (map v xs) ≡ flat_map (λ x. f k (v x)) xs
found_mapped f v k xs = flat_map-map (f k) v xs
