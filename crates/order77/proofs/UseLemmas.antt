-- Lists of names that grow, by the parts that the names stand in.
use Rattle.std.proofs.Common.{◌≡◌, ◌↔◌, IsTrue, ℕ, ◌+◌, ◌<◌, Bool, true, false, List, [], ◌∷◌, ◌++◌, map, filter, length, get_or, take, refl, sym, ap, ◌∙◌, append_assoc, append-nil, if◌then◌else◌}
use Rattle.std.specs.Prelude.{flat_map, Option}
use Rattle.std.specs.Option.{option_map}
use Rattle.std.specs.Borrow.{Bor}
use Rattle.std.proofs.lemmas.List.{map-append, take_more}
use Rattle.std.proofs.lemmas.List.Folds.{flat_map-map}
use Rattle.std.proofs.lemmas.List.Elements.{filter-append}
use Rattle.std.proofs.lemmas.Grind.{flat_map-append}
use Rattle.text_base.specs.Names.{expr_names, exprs_names, bound_names}
use Rattle.expr_tree.specs.Plain.{expr_of, exprs_of, bound_of}
use Rattle.expr_tree.specs.declared.tree.Expr.{Expr}
use Rattle.expr_tree.specs.declared.tree.Expr.TheVariants as v
use Rattle.expr_tree.proofs.Equations.{expr_equations, expr_substring}
use Rattle.tree77.proofs.Equations.{listed_equations}
use Rattle.tree77.specs.Statements as s
use Rattle.tree77.specs.StatementPlain.{dimension_of, declarator_of, listed_of, listed_items}
use Rattle.tree77.specs.declared.statement.Dimension77.{Dimension77}
use Rattle.tree77.specs.declared.statement.Declarator77.{Declarator77}
use Rattle.tree77.specs.declared.statement.Listed77.{Listed77}
use Rattle.order77.specs.Names.{member_uses, has_dimensions, arrays_among, listed_uses, listeds_uses}
use Rattle.order77.specs.NameSets.{lent}

pub lent_append : (xs ys : List (Bor (List ℕ))) → lent (xs ++ ys) ≡ lent xs ++ lent ys
lent_append xs ys = map-append (λ (k : Bor (List ℕ)). k.now) xs ys

-- ---- one more part

pub exprs_more : (xs : List Expr) (x : Expr) → exprs_names (exprs_of (map expr_of (xs ++ x ∷ []))) ≡ exprs_names (exprs_of (map expr_of xs)) ++ expr_names (expr_of x)
exprs_more [] x = append-nil (expr_names (expr_of x))
exprs_more (y ∷ ys) x = ap (λ l. expr_names (expr_of y) ++ l) (exprs_more ys x) ∙ sym (append_assoc (expr_names (expr_of y)) (exprs_names (exprs_of (map expr_of ys))) (expr_names (expr_of x)))

pub listeds_more : (xs : List Listed77) (x : Listed77) → listeds_uses (listed_items (xs ++ x ∷ [])) ≡ listeds_uses (listed_items xs) ++ listed_uses (listed_of x)
listeds_more [] x = append-nil (listed_uses (listed_of x))
listeds_more (y ∷ ys) x = ap (λ l. listed_uses (listed_of y) ++ l) (listeds_more ys x) ∙ sym (append_assoc (listed_uses (listed_of y)) (listeds_uses (listed_items ys)) (listed_uses (listed_of x)))

pub mapped_more : {A B C : Type 0} (f : B → List C) (v : A → B) (xs : List A) (x : A) → flat_map f (map v (xs ++ x ∷ [])) ≡ flat_map f (map v xs) ++ f (v x)
mapped_more f v xs x = ap (flat_map f) (map-append v xs (x ∷ [])) ∙ flat_map-append f (map v xs) (v x ∷ []) ∙ ap (λ l. flat_map f (map v xs) ++ l) (append-nil (f (v x)))

-- the step of a loop that adds what one more part has
pub grown : {A : Type 0} (f : List A → List (List ℕ)) (g : A → List (List ℕ)) → ((xs : List A) (x : A) → f (xs ++ x ∷ []) ≡ f xs ++ g x)
    → (xs : List A) (i : ℕ) (x : A) (start out new : List (List ℕ)) → x ≡ get_or xs i x → i < length xs → out ≡ start ++ f (take i xs) → new ≡ out ++ g x → new ≡ start ++ f (take (i + 1) xs)
grown f g more xs i x start out new is lt before step =
    step ∙ ap (λ l. l ++ g x) before ∙ append_assoc start (f (take i xs)) (g x)
    ∙ ap (λ l. start ++ l) (sym (more (take i xs) x) ∙ ap (λ y. f (take i xs ++ y ∷ [])) is ∙ ap f (sym (take_more xs i x lt)))

-- the names of a member, and then those of its bounds
pub member_bounded : (a b x : Expr) (from to : Option Expr) (old mid : List (List ℕ)) → a ≡ b → x ≡ v.Substring b from to → mid ≡ old ++ member_uses (expr_of a)
    → mid ++ (bound_names (bound_of (option_map expr_of from)) ++ bound_names (bound_of (option_map expr_of to))) ≡ old ++ member_uses (expr_of x)
member_bounded a b x from to old mid same is before =
    ap (λ l. l ++ (bound_names (bound_of (option_map expr_of from)) ++ bound_names (bound_of (option_map expr_of to)))) before
    ∙ append_assoc old (member_uses (expr_of a)) _
    ∙ ap (λ l. old ++ l) (sym (ap member_uses (expr_substring a from to)) ∙ ap (λ y. member_uses (expr_of (v.Substring y from to))) same ∙ ap (λ y. member_uses (expr_of y)) (sym is))

pub ruleset use_steps = (mapped_more, take_more, append_assoc, append-nil)

pub ruleset of_parts = (flat_map-map, append_assoc, append-nil)

pub ruleset expr_steps = (expr_equations, append_assoc, append-nil)

pub ruleset listed_steps = (listed_equations, append_assoc, append-nil)

-- ---- arrays

pub arrays_more : (ds : List Declarator77) (d : Declarator77) → arrays_among (map declarator_of (ds ++ d ∷ [])) ≡ arrays_among (map declarator_of ds) ++ arrays_among (declarator_of d ∷ [])
arrays_more ds d =
    ap arrays_among (map-append declarator_of ds (d ∷ []))
    ∙ ap (map (λ (x : s.Declarator). x.name)) (filter-append has_dimensions (map declarator_of ds) (declarator_of d ∷ []))
    ∙ map-append (λ (x : s.Declarator). x.name) (filter has_dimensions (map declarator_of ds)) (filter has_dimensions (declarator_of d ∷ []))

scalar : (d : Declarator77) → d.dimensions ≡ [] → arrays_among (declarator_of d ∷ []) ≡ []
scalar d e = ap (λ (ds : List Dimension77). arrays_among (record { name = d.name; dimensions = map dimension_of ds; length = (declarator_of d).length } ∷ [])) e

array : (d : Declarator77) (ds : List Dimension77) → d.dimensions ≡ ds → (ds ≡ [] → ⊥) → arrays_among (declarator_of d ∷ []) ≡ d.name ∷ []
array d [] e other = absurd (other refl)
array d (x ∷ xs) e other = ap (λ (ds : List Dimension77). arrays_among (record { name = d.name; dimensions = map dimension_of ds; length = (declarator_of d).length } ∷ [])) e

-- a name alone is added where it has dimensions
pub array_or_not : (d : Declarator77) (b : Bool) → IsTrue b ↔ (d.dimensions ≡ []) → arrays_among (declarator_of d ∷ []) ≡ (if b then [] else d.name ∷ [])
array_or_not d true is = scalar d (is.0 refl)
array_or_not d false is = array d d.dimensions refl (λ e. let f : false ≡ true = is.1 e in cc)
