-- Statement functions are told from assignments.
use Rattle.std.proofs.Common.{◌≡◌, ℕ, zero, suc, ◌+◌, ◌-◌, ◌<◌, ◌≤◌, Bool, true, false, not, ◌&&◌, ◌||◌, List, [], ◌∷◌, ◌++◌, map, length, get_or, set, take, drop, reverse, if◌then◌else◌, refl, sym, ap, ◌∙◌, subst, arith, add-one, append_assoc, append-nil, length-drop}
use Rattle.std.specs.Prelude.{flat_map}
use Rattle.std.specs.List.{list_any, zip}
use Rattle.std.proofs.Math.Bool.{or-false}
use Rattle.std.proofs.Math.ListN.{drop_of_length-le, length-set}
use Rattle.std.proofs.Math.Seq.{drop-cons, take-length}
use Rattle.std.proofs.lemmas.List.{reverse-append}
use Rattle.text_base.specs.Trees as t
use Rattle.expr_tree.specs.Plain.{expr_step, expr_of, exprs_of}
use Rattle.expr_tree.specs.declared.tree.Expr.{Expr, fold-roll-Expr, map-Expr, roll-Expr, ind-Expr}
use Rattle.expr_tree.specs.declared.tree.Expr.TheOpen.{Expr-F}
use Rattle.expr_tree.specs.declared.tree.Expr.TheVariants as v
use Rattle.tree77.specs.Statements as s
use Rattle.tree77.specs.Statements.{Statement}
use Rattle.order77.specs.declared.read.ReadStatement.{ReadStatement}
use Rattle.order77.specs.Counts.{Reading, counts_as, counts_action, is_end}
use Rattle.order77.specs.Names.{is_among, as_list, arrays, within}
use Rattle.order77.specs.NameSets.{with_names}
use Rattle.order77.specs.ReadViews.{reading_at, readings_from, readings_of}
use Rattle.order77.specs.Settling.{are_names, names_among, has_form, as_function, is_text, arrays_ahead, functions_behind, functions, settled_as, settled}
use Rattle.order77.proofs.NameLemmas.{among_all, with_names_append}

-- what is left behind some is the next one, and what is left behind it
here : {A : Type 0} (xs : List A) (i : ℕ) (x : A) → x ≡ get_or xs i x → i < length xs → drop i xs ≡ x ∷ drop (i + 1) xs
here xs i x is lt = rw add-one (drop-cons xs i x lt ∙ ap (λ y. y ∷ drop (suc i) xs) (sym is))

-- ---- the form

names_more : (x : t.Expr) (xs : t.Exprs) → are_names (t.more x xs) ≡ (are_names (t.more x t.none) && are_names xs)
names_more (t.name x) xs = refl
names_more x xs = refl

abbrev pub all_names : List Expr → Bool
all_names xs = are_names (exprs_of (map expr_of xs))

-- an expression, and those behind it
pub names_next : (xs : List Expr) (i : ℕ) (x : Expr) (b whole : Bool) → x ≡ get_or xs i x → i < length xs → b ≡ all_names (x ∷ []) → all_names (drop i xs) ≡ whole → (b && all_names (drop (i + 1) xs)) ≡ whole
names_next xs i x b whole is lt named before =
    ap (λ c. c && all_names (drop (i + 1) xs)) named ∙ sym (names_more (expr_of x) (exprs_of (map expr_of (drop (i + 1) xs)))) ∙ ap all_names (sym (here xs i x is lt)) ∙ before

-- ---- the names among expressions

first_among : (x : t.Expr) (xs : t.Exprs) → names_among (t.more x xs) ≡ names_among (t.more x t.none) ++ names_among xs
first_among (t.name x) xs = refl
first_among x xs = refl

turned : (x : t.Expr) → reverse (names_among (t.more x t.none)) ≡ names_among (t.more x t.none)
turned (t.name x) = refl
turned x = refl

abbrev among : List Expr → List (List ℕ)
among xs = names_among (exprs_of (map expr_of xs))

last_among : (xs : List Expr) (x : Expr) → among (xs ++ x ∷ []) ≡ among xs ++ among (x ∷ [])
last_among [] x = refl
last_among (y ∷ ys) x =
    first_among (expr_of y) (exprs_of (map expr_of (ys ++ x ∷ []))) ∙ ap (λ l. among (y ∷ []) ++ l) (last_among ys x)
    ∙ sym (append_assoc (among (y ∷ [])) (among ys) (among (x ∷ [])))
    ∙ ap (λ l. l ++ among (x ∷ [])) (sym (first_among (expr_of y) (exprs_of (map expr_of ys))))

pub popped : (whole : List (List ℕ)) (old new : List Expr) (x : Expr) (names more : List (List ℕ)) → whole ≡ among old ++ reverse names → old ≡ new ++ x ∷ [] → more ≡ names ++ among (x ∷ []) → whole ≡ among new ++ reverse more
popped whole old new x names more before is grown =
    before ∙ ap (λ l. among l ++ reverse names) is ∙ ap (λ l. l ++ reverse names) (last_among new x) ∙ append_assoc (among new) (among (x ∷ [])) (reverse names)
    ∙ ap (λ l. among new ++ (l ++ reverse names)) (sym (turned (expr_of x))) ∙ ap (λ l. among new ++ l) (sym (reverse-append names (among (x ∷ []))) ∙ ap reverse (sym grown))

abbrev IsUnchanged : t.Expr → t.Expr → Type 0
IsUnchanged x value = as_function (s.simple (s.assign x value)) ≡ s.simple (s.assign x value)

abbrev IsOther : Expr → Type 0
IsOther x = (f : List ℕ) (xs : List Expr) → x ≡ v.Call f xs → ⊥

unchanged_layer : (value : t.Expr) (x : Expr-F Expr) → IsOther (roll-Expr x) → IsUnchanged (expr_step (map-Expr Expr t.Expr expr_of x)) value
unchanged_layer value (Expr-F.Call f xs) other = absurd (other f xs (v.rolls-Call f xs))
unchanged_layer value x other = refl

-- an assignment to another variable than a name with parentheses stays one
pub unchanged : (value : t.Expr) (x : Expr) → IsOther x → IsUnchanged (expr_of x) value
unfolding expr_of
unchanged value = ind-Expr (λ x. IsOther x → IsUnchanged (expr_of x) value) (λ x y is other. let P : t.Expr → Type 0 = λ a. IsUnchanged a value in subst P (sym (fold-roll-Expr t.Expr expr_step x)) (unchanged_layer value x other))

-- ---- the arrays of a unit

-- the number from which statements are numbered doesn't matter
ahead_same : (n m : ℕ) (rs : List ReadStatement) → arrays_ahead (readings_from n rs) ≡ arrays_ahead (readings_from m rs)
ahead_same n m [] = refl
ahead_same n m (r ∷ rs) = ap (λ xs. if is_end (counts_as (reading_at 0 r)) then [] else within arrays (reading_at 0 r) ++ xs) (ahead_same (suc n) (suc m) rs)

abbrev pub ahead : List ReadStatement → List (List ℕ)
ahead rs = arrays_ahead (readings_of rs)

pub ahead_any : (n : ℕ) (names : List (List ℕ)) (rs : List ReadStatement) → names ≡ with_names [] (ahead rs) → names ≡ with_names [] (arrays_ahead (readings_from n rs))
ahead_any n names rs e = e ∙ ap (with_names []) (ahead_same 0 n rs)

ahead_more : (r : ReadStatement) (rs : List ReadStatement) (b : Bool) → is_end (counts_as (reading_at 0 r)) ≡ b → ahead (r ∷ rs) ≡ (if b then [] else within arrays (reading_at 0 r) ++ ahead rs)
ahead_more r rs b e = ap (λ c. if c then [] else within arrays (reading_at 0 r) ++ arrays_ahead (readings_from 1 rs)) e ∙ ap (λ xs. if b then [] else within arrays (reading_at 0 r) ++ xs) (ahead_same 1 0 rs)

pub ahead_end : (names whole : List (List ℕ)) (rs : List ReadStatement) (i : ℕ) (r : ReadStatement) → r ≡ get_or rs i r → i < length rs → is_end (counts_as (reading_at 0 r)) ≡ true
    → with_names names (ahead (drop i rs)) ≡ whole → names ≡ whole
ahead_end names whole rs i r is lt e before = ap (with_names names) (sym (ap ahead (here rs i r is lt) ∙ ahead_more r (drop (i + 1) rs) true e)) ∙ before

pub ahead_next : (names more whole : List (List ℕ)) (rs : List ReadStatement) (i : ℕ) (r : ReadStatement) → r ≡ get_or rs i r → i < length rs → is_end (counts_as (reading_at 0 r)) ≡ false
    → more ≡ with_names names (within arrays (reading_at 0 r)) → with_names names (ahead (drop i rs)) ≡ whole → with_names more (ahead (drop (i + 1) rs)) ≡ whole
ahead_next names more whole rs i r is lt e grown before =
    ap (λ x. with_names x (ahead (drop (i + 1) rs))) grown ∙ sym (with_names_append names (within arrays (reading_at 0 r)) (ahead (drop (i + 1) rs)))
    ∙ ap (with_names names) (sym (ap ahead (here rs i r is lt) ∙ ahead_more r (drop (i + 1) rs) false e)) ∙ before

pub ahead_done : (names whole : List (List ℕ)) (rs : List ReadStatement) (i : ℕ) → length rs ≤ i → with_names names (ahead (drop i rs)) ≡ whole → names ≡ whole
ahead_done names whole rs i le before = ap (λ l. with_names names (ahead l)) (sym (drop_of_length-le rs le)) ∙ before

-- all that is behind a place
pub all_behind : (rs : List ReadStatement) (i : ℕ) → take (length rs - i) (drop i rs) ≡ drop i rs
all_behind rs i = ap (λ n. take n (drop i rs)) (sym (length-drop i rs)) ∙ take-length (drop i rs)

-- ---- which statements are statement functions

form_same : (xs ys : List (List ℕ)) → ((y : List ℕ) → is_among xs y ≡ is_among ys y) → (x : Statement) → has_form xs x ≡ has_form ys x
form_same xs ys same (s.simple (s.assign (t.call f es) e)) = ap (λ b. not b && are_names es) (same f)
form_same xs ys same x = refl

text_same : (xs ys : List (List ℕ)) → ((y : List ℕ) → is_among xs y ≡ is_among ys y) → (r : Reading) → is_text xs r ≡ is_text ys r
text_same xs ys same r = go (as_list r.statement)
  where
    go : (x : List Statement) → list_any (λ b. b) (flat_map (λ y. has_form xs y ∷ []) x) ≡ list_any (λ b. b) (flat_map (λ y. has_form ys y ∷ []) x)
    go [] = refl
    go (y ∷ x) = ap (λ b. b || list_any (λ b. b) (flat_map (λ y. has_form xs y ∷ []) x)) (form_same xs ys same y) ∙ ap (λ b. has_form ys y || b) (go x)

-- an END and what follows it, or another statement and what follows that
abbrev either : Bool → Bool → List Bool → (Bool → List Bool) → List Bool
either ends b ended next = if ends then false ∷ ended else b ∷ next b

either_same : (c : Bool) (ended x : List Bool) → ended ≡ x → (next y : Bool → List Bool) → ((b : Bool) → next b ≡ y b) → (b d : Bool) → b ≡ d → either c b ended next ≡ either c d x y
either_same true ended x e next y f b d g = ap (λ l. false ∷ l) e
either_same false ended x e next y f b d g = ap (λ h. h ∷ next h) g ∙ ap (λ l. d ∷ l) (f d)

either_length : (c b : Bool) (ended : List Bool) (next : Bool → List Bool) (n : ℕ) → length ended ≡ n → ((b : Bool) → length (next b) ≡ n) → length (either c b ended next) ≡ suc n
either_length true b ended next n e f = ap suc e
either_length false b ended next n e f = ap suc (f b)

abbrev after : Bool → Reading → Bool → Bool
after e r b = e || (not b && counts_action (counts_as r))

pub behind_length : (e : Bool) (xs : List (List ℕ)) (rs : List Reading) → length (functions_behind e xs rs) ≡ length rs
behind_length e xs [] = refl
behind_length e xs (r ∷ rs) =
    either_length (is_end (counts_as r)) (not e && is_text xs r) (functions_behind false (arrays_ahead rs) rs) (λ b. functions_behind (after e r b) xs rs) (length rs)
    (behind_length false (arrays_ahead rs) rs) (λ b. behind_length (after e r b) xs rs)

-- Neither the number from which statements are numbered matters, nor how often and in which order arrays stand.
behind_same : (xs ys : List (List ℕ)) → ((y : List ℕ) → is_among xs y ≡ is_among ys y) → (e : Bool) (n m : ℕ) (rs : List ReadStatement) → functions_behind e xs (readings_from n rs) ≡ functions_behind e ys (readings_from m rs)
behind_same xs ys same e n m [] = refl
behind_same xs ys same e n m (r ∷ rs) =
    either_same (is_end (counts_as (reading_at 0 r)))
    _ _ (behind_same (arrays_ahead (readings_from (suc n) rs)) (arrays_ahead (readings_from (suc m) rs)) (λ y. ap (λ l. is_among l y) (ahead_same (suc n) (suc m) rs)) false (suc n) (suc m) rs)
    (λ b. functions_behind (after e (reading_at 0 r) b) xs (readings_from (suc n) rs)) (λ b. functions_behind (after e (reading_at 0 r) b) ys (readings_from (suc m) rs)) (λ b. behind_same xs ys same (after e (reading_at 0 r) b) (suc n) (suc m) rs)
    _ _ (ap (λ t. not e && t) (text_same xs ys same (reading_at 0 r)))

behind_more : (e : Bool) (names : List (List ℕ)) (r : ReadStatement) (rs : List ReadStatement) (c : Bool) → is_end (counts_as (reading_at 0 r)) ≡ c
    → functions_behind e names (readings_of (r ∷ rs))
    ≡ either c (not e && is_text names (reading_at 0 r)) (functions_behind false (arrays_ahead (readings_from 1 rs)) (readings_from 1 rs)) (λ b. functions_behind (after e (reading_at 0 r) b) names (readings_from 1 rs))
behind_more e names r rs c is =
    ap (λ c. either c (not e && is_text names (reading_at 0 r)) (functions_behind false (arrays_ahead (readings_from 1 rs)) (readings_from 1 rs)) (λ b. functions_behind (after e (reading_at 0 r) b) names (readings_from 1 rs))) is

behind_any : (names xs : List (List ℕ)) → names ≡ with_names [] xs → (e : Bool) (n : ℕ) (rs : List ReadStatement) → functions_behind e names (readings_of rs) ≡ functions_behind e xs (readings_from n rs)
behind_any names xs is e n rs = behind_same names xs (λ y. ap (λ l. is_among l y) is ∙ among_all xs y) e 0 n rs

pub behind_start : (names : List (List ℕ)) (rs : List ReadStatement) → ((n : ℕ) → names ≡ with_names [] (arrays_ahead (readings_from n rs))) → functions_behind false names (readings_of rs) ≡ functions (readings_of rs)
behind_start names rs is = behind_any names (ahead rs) (is 0) false 0 rs

-- the step of an END, and that of another statement
pub behind_end : (flags new : List Bool) (e d : Bool) (names more : List (List ℕ)) (whole : List Bool) (rs : List ReadStatement) (i : ℕ) (r : ReadStatement) → r ≡ get_or rs i r → i < length rs
    → is_end (counts_as (reading_at 0 r)) ≡ true → new ≡ flags ++ false ∷ [] → d ≡ false → ((n : ℕ) → more ≡ with_names [] (arrays_ahead (readings_from n (drop (i + 1) rs))))
    → flags ++ functions_behind e names (readings_of (drop i rs)) ≡ whole → new ++ functions_behind d more (readings_of (drop (i + 1) rs)) ≡ whole
behind_end flags new e d names more whole rs i r is lt ends grown none ahead before = let rest = drop (i + 1) rs in
    ap (λ l. l ++ functions_behind d more (readings_of rest)) grown ∙ append_assoc flags (false ∷ []) (functions_behind d more (readings_of rest))
    ∙ ap (λ b. flags ++ false ∷ functions_behind b more (readings_of rest)) none
    ∙ ap (λ l. flags ++ false ∷ l) (behind_any more (arrays_ahead (readings_from 1 rest)) (ahead 1) false 1 rest)
    ∙ ap (λ l. flags ++ l) (sym (behind_more e names r rest true ends)) ∙ ap (λ l. flags ++ functions_behind e names (readings_of l)) (sym (here rs i r is lt)) ∙ before

pub behind_next : (flags new : List Bool) (e d b : Bool) (names more : List (List ℕ)) (whole : List Bool) (rs : List ReadStatement) (i : ℕ) (r : ReadStatement) → r ≡ get_or rs i r → i < length rs
    → is_end (counts_as (reading_at 0 r)) ≡ false → new ≡ flags ++ b ∷ [] → b ≡ (not e && is_text names (reading_at 0 r)) → d ≡ after e (reading_at 0 r) b → more ≡ names
    → flags ++ functions_behind e names (readings_of (drop i rs)) ≡ whole → new ++ functions_behind d more (readings_of (drop (i + 1) rs)) ≡ whole
behind_next flags new e d b names more whole rs i r is lt ends grown isb isd same before = let rest = drop (i + 1) rs in
    ap (λ l. l ++ functions_behind d more (readings_of rest)) grown ∙ append_assoc flags (b ∷ []) (functions_behind d more (readings_of rest))
    ∙ ap (λ l. flags ++ b ∷ l) (ap (λ l. functions_behind d l (readings_of rest)) same ∙ behind_same names names (λ y. refl) d 0 1 rest ∙ ap (λ h. functions_behind h names (readings_from 1 rest)) isd)
    ∙ ap (λ h. flags ++ h ∷ functions_behind (after e (reading_at 0 r) h) names (readings_from 1 rest)) isb
    ∙ ap (λ l. flags ++ l) (sym (behind_more e names r rest false ends)) ∙ ap (λ l. flags ++ functions_behind e names (readings_of l)) (sym (here rs i r is lt)) ∙ before

-- ---- statement functions in place of assignments

-- the statements of a file, where those from one on are still to be settled
abbrev pub left : ℕ → ℕ → List Bool → List ReadStatement → List Reading
left n zero fs rs = map settled_as (zip fs (readings_from n rs))
left n (suc i) (f ∷ fs) (r ∷ rs) = reading_at n r ∷ left (suc n) i fs rs
left n (suc i) fs rs = []

left_next : (n i : ℕ) (fs : List Bool) (rs : List ReadStatement) (f : Bool) (d x : ReadStatement) → i < length fs → i < length rs → f ≡ get_or fs i f
    → ((k : ℕ) → reading_at k x ≡ settled_as (f, reading_at k (get_or rs i d))) → left n (suc i) fs (set rs i x) ≡ left n i fs rs
left_next n zero (g ∷ fs) (q ∷ rs) f d x lf lr isf made = ap (λ z. z ∷ left (suc n) 0 fs rs) (made n ∙ ap (λ h. settled_as (h, reading_at n q)) isf)
left_next n (suc i) (g ∷ fs) (q ∷ rs) f d x lf lr isf made = ap (λ z. reading_at n q ∷ z) (left_next (suc n) i fs rs f d x (omega arith) (omega arith) isf made)
left_next n i [] rs f d x lf lr isf made = absurd (omega arith)
left_next n i fs [] f d x lf lr isf made = absurd (omega arith)

left_none : (n : ℕ) (fs : List Bool) (rs : List ReadStatement) → length fs ≡ length rs → left n (length rs) fs rs ≡ readings_from n rs
left_none n [] [] same = refl
left_none n (f ∷ fs) (r ∷ rs) same = ap (λ z. reading_at n r ∷ z) (left_none (suc n) fs rs (omega arith))
left_none n [] (r ∷ rs) same = absurd (omega arith)
left_none n (f ∷ fs) [] same = absurd (omega arith)

readings_length : (n : ℕ) (rs : List ReadStatement) → length (readings_from n rs) ≡ length rs
readings_length n [] = refl
readings_length n (r ∷ rs) = ap suc (readings_length (suc n) rs)

-- all are to be settled, one less, and none
abbrev pub IsLeft : ℕ → List Bool → List ReadStatement → List Reading → Type 0
IsLeft i flags rs whole = (length flags ≡ length rs) × (left 0 i flags rs ≡ whole)

pub left_start : (flags : List Bool) (rs now : List ReadStatement) → flags ≡ functions (readings_of rs) → now ≡ rs → IsLeft 0 flags now (settled (readings_of rs))
left_start flags rs now are is = (
  ap length are ∙ behind_length false (arrays_ahead (readings_of rs)) (readings_of rs) ∙ readings_length 0 rs ∙ ap length (sym is),
  ap (λ fs. map settled_as (zip fs (readings_of now))) are ∙ ap (λ l. map settled_as (zip (functions (readings_of rs)) (readings_of l))) is,
)

pub left_more : (i : ℕ) (flags : List Bool) (rs : List ReadStatement) (whole : List Reading) (f : Bool) (d x : ReadStatement) → i < length rs → f ≡ get_or flags i f
    → ((k : ℕ) → reading_at k x ≡ settled_as (f, reading_at k (get_or rs i d))) → IsLeft i flags rs whole → IsLeft (i + 1) flags (set rs i x) whole
left_more i flags rs whole f d x lt isf made before = (
  before.0 ∙ sym (length-set rs i x),
  rw add-one (left_next 0 i flags rs f d x (omega (arith, before.0)) lt isf made ∙ before.1),
)

pub left_end : (i size : ℕ) (flags : List Bool) (items rs : List ReadStatement) (whole : List Reading) → length rs ≤ i → i ≤ length rs → length rs ≡ length items → size ≡ length items → IsLeft i flags rs whole
    → readings_of (take size (rs ++ drop (length rs) items)) ≡ whole
left_end i size flags items rs whole le ge same all before =
    ap (λ l. readings_of (take size (rs ++ l))) (drop_of_length-le items (omega arith)) ∙ ap (λ l. readings_of (take size l)) (append-nil rs)
    ∙ ap (λ k. readings_of (take k rs)) (all ∙ sym same) ∙ ap readings_of (take-length rs) ∙ sym (left_none 0 flags rs before.0)
    ∙ ap (λ k. left 0 k flags rs) (let e : length rs ≡ i = omega arith in e) ∙ before.1

pub ruleset text_steps = (or-false, append-nil)
