-- Notes that grow, by the parts of statements that they come from.
use Rattle.std.proofs.Common.{◌≡◌, ℕ, ◌+◌, ◌<◌, List, [], ◌∷◌, ◌++◌, map, length, get_or, take, sym, ap, ◌∙◌, append_assoc, append-nil}
use Rattle.std.specs.Prelude.{flat_map, Option}
use Rattle.std.specs.Option.{option_map}
use Rattle.std.proofs.lemmas.List.{map-append, take_more}
use Rattle.std.proofs.lemmas.Grind.{flat_map-append}
use Rattle.expr_tree.specs.Plain.{expr_of, exprs_of, bound_of}
use Rattle.expr_tree.specs.declared.tree.Expr.{Expr}
use Rattle.expr_tree.specs.declared.tree.Expr.TheVariants as v
use Rattle.expr_tree.proofs.Equations.{expr_equations, expr_substring}
use Rattle.tree77.proofs.Equations.{listed_equations}
use Rattle.tree77.specs.StatementPlain.{listed_of, listed_items}
use Rattle.tree77.specs.declared.statement.Listed77.{Listed77}
use Rattle.names77.specs.Notes as n
use Rattle.names77.specs.Notes.{Around, Fact, before_substring, expr_notes, exprs_notes, bound_notes, listed_notes, listeds_notes}
use Rattle.names77.specs.Views.{shown_note, shown_notes}
use Rattle.names77.specs.declared.notes.Note.{Note}

pub shown_append : (xs ys : List Note) → shown_notes (xs ++ ys) ≡ shown_notes xs ++ shown_notes ys
shown_append xs ys = map-append shown_note xs ys

-- ---- one more part

pub exprs_more : (c : Around) (f : Fact) (xs : List Expr) (x : Expr) → exprs_notes c f (exprs_of (map expr_of (xs ++ x ∷ []))) ≡ exprs_notes c f (exprs_of (map expr_of xs)) ++ expr_notes c f (expr_of x)
exprs_more c f [] x = append-nil (expr_notes c f (expr_of x))
exprs_more c f (y ∷ ys) x = ap (λ l. expr_notes c f (expr_of y) ++ l) (exprs_more c f ys x) ∙ sym (append_assoc (expr_notes c f (expr_of y)) (exprs_notes c f (exprs_of (map expr_of ys))) (expr_notes c f (expr_of x)))

pub listeds_more : (f : Fact) (xs : List Listed77) (x : Listed77) → listeds_notes f (listed_items (xs ++ x ∷ [])) ≡ listeds_notes f (listed_items xs) ++ listed_notes f (listed_of x)
listeds_more f [] x = append-nil (listed_notes f (listed_of x))
listeds_more f (y ∷ ys) x = ap (λ l. listed_notes f (listed_of y) ++ l) (listeds_more f ys x) ∙ sym (append_assoc (listed_notes f (listed_of y)) (listeds_notes f (listed_items ys)) (listed_notes f (listed_of x)))

pub mapped_more : {A B C : Type 0} (f : B → List C) (v : A → B) (xs : List A) (x : A) → flat_map f (map v (xs ++ x ∷ [])) ≡ flat_map f (map v xs) ++ f (v x)
mapped_more f v xs x = ap (flat_map f) (map-append v xs (x ∷ [])) ∙ flat_map-append f (map v xs) (v x ∷ []) ∙ ap (λ l. flat_map f (map v xs) ++ l) (append-nil (f (v x)))

-- the step of a loop that adds what one more part says
pub grown : {A B : Type 0} (f : List A → List B) (g : A → List B) → ((xs : List A) (x : A) → f (xs ++ x ∷ []) ≡ f xs ++ g x)
    → (xs : List A) (i : ℕ) (x : A) (start out new : List B) → x ≡ get_or xs i x → i < length xs → out ≡ start ++ f (take i xs) → new ≡ out ++ g x → new ≡ start ++ f (take (i + 1) xs)
grown f g more xs i x start out new is lt before step =
    step ∙ ap (λ l. l ++ g x) before ∙ append_assoc start (f (take i xs)) (g x)
    ∙ ap (λ l. start ++ l) (sym (more (take i xs) x) ∙ ap (λ y. f (take i xs ++ y ∷ [])) is ∙ ap f (sym (take_more xs i x lt)))

-- what the variable of a substring says, and then what its bounds say
pub substring_grown : (c : Around) (f g : Fact) (a b x : Expr) (from to : Option Expr) (old mid low : List n.Note)
    → a ≡ b → x ≡ v.Substring b from to → g ≡ before_substring f → mid ≡ old ++ expr_notes c g (expr_of a) → low ≡ mid ++ bound_notes c (bound_of (option_map expr_of from))
    → low ++ bound_notes c (bound_of (option_map expr_of to)) ≡ old ++ expr_notes c f (expr_of x)
substring_grown c f g a b x from to old mid low same is fact first second =
    let s = bound_notes c (bound_of (option_map expr_of from)) in
    let t = bound_notes c (bound_of (option_map expr_of to)) in
    let all = ap (expr_notes c f) (ap expr_of is ∙ expr_substring b from to) in
    let joined = append_assoc mid s t in
    let joined_before = append_assoc old (expr_notes c g (expr_of a)) (s ++ t) in
    cc

pub ruleset note_steps = (shown_append, mapped_more, take_more, append_assoc, append-nil)

pub ruleset expr_steps = (expr_equations, append_assoc, append-nil)

pub ruleset listed_steps = (listed_equations, append_assoc, append-nil)
