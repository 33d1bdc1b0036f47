-- What the pass gives is a nesting of the lines.
use Rattle.std.proofs.Common.{◌≡◌, ◌⊎◌, inl, inr, ℕ, Bool, true, false, not, ◌||◌, List, [], ◌∷◌, ◌++◌, Some, None, refl, sym, ap, ◌∙◌, subst, append_assoc, append-nil}
use Rattle.std.specs.Prelude.{if◌then◌else◌}
use Rattle.std.proofs.lemmas.Bool.{eqb-true}
use Rattle.unit77.specs.Tree.{Line}
use Rattle.unit77.specs.Tree.{Items, done, simple, loop, block, Arms, last, arm, first_line, flat, flat_arms}
use Rattle.order77.specs.declared.mark.Sort.{Sort}
use Rattle.order77.specs.declared.mark.Sort.TheVariants.{Plain, Leaving, Do, If, ElseIf, Else, EndIf}
use Rattle.order77.specs.declared.mark.Mark.{Mark}
use Rattle.unit77.specs.Nesting.{mark, sort, names, named, Free, Nests, NestsArms, IsNesting}
use Rattle.unit77.specs.Running.{join, arms_before, Open, State, heads, state, opened, ended, parted, closed, moved, step, is_if, is_arm, may_part, may_close, in_own_list, fits_sort, fits, end_of, run, start}
use Rattle.unit77.proofs.Complete.{before_more, ended_free}

-- ---- lists

pub flat_join : (xs ys : Items) → flat (join xs ys) ≡ flat xs ++ flat ys
flat_join done ys = refl
flat_join (simple l xs) ys = ap (λ ls. l ∷ ls) (flat_join xs ys)
flat_join (loop l is xs) ys = ap (λ ls. l ∷ (flat is ++ ls)) (flat_join xs ys) ∙ ap (λ ls. l ∷ ls) (sym (append_assoc (flat is) (flat xs) (flat ys)))
flat_join (block a e xs) ys = ap (λ ls. first_line a ∷ (flat_arms a ++ e ∷ ls)) (flat_join xs ys) ∙ ap (λ ls. first_line a ∷ ls) (sym (append_assoc (flat_arms a) (e ∷ flat xs) (flat ys)))

nests_join : (b : Bool) (hs : List Mark) (xs ys : Items) → Nests false hs xs → Nests b hs ys → Nests b hs (join xs ys)
nests_join b hs done ys n m = m
nests_join b hs (simple l xs) ys (inl n) m = inl (n.0, nests_join b hs xs ys n.1 m)
nests_join b hs (simple l xs) ys (inr n) m = absurd (let e : false ≡ true = n.0 in cc)
nests_join b hs (loop l is xs) ys (t, s, f, i, inl n) m = (t, s, f, i, inl (n.0, nests_join b hs xs ys n.1 m))
nests_join b hs (loop l is xs) ys (t, s, f, i, inr n) m = absurd (let e : false ≡ true = n.0 in cc)
nests_join b hs (block a e xs) ys n m = (n.0, n.1, n.2, n.3, nests_join b hs xs ys n.4 m)

-- ---- what holds of the pass after some lines

-- the lines from where a construct begins to the line that its open list begins with
abbrev Opened : List Mark → List Line → Open → Type 0
Opened hs ws o =
    ((t : ℕ) × ((sort o.head) ≡ Do t) × Free hs o.head × (ws ≡ o.head ∷ []))
    ⊎ ((is_arm (sort o.head) ≡ true)
    × ((arms : Arms) → first_line arms ≡ o.head → NestsArms hs arms
    → ((sort (first_line (arms_before o.arms arms))) ≡ If) × Free hs (first_line (arms_before o.arms arms)) × NestsArms hs (arms_before o.arms arms)
    × (first_line (arms_before o.arms arms) ∷ flat_arms (arms_before o.arms arms) ≡ ws ++ flat_arms arms)))

abbrev Opens : List Line → List Open → Type 0
Opens ls [] = ls ≡ []
Opens ls (o ∷ os) = (us : List Line) × (ws : List Line) × (ls ≡ us ++ (flat o.before ++ ws)) × Opens us os × Nests false (heads os) o.before × Opened (heads os) ws o

abbrev Good : List Line → State → Type 0
Good ls s = (ws : List Line) × (ls ≡ ws ++ flat s.items) × Opens ws s.open_ × Nests false (heads s.open_) s.items

no : {P : Type 0} → false ≡ true → P
no e = absurd cc

free_of : (b : Bool) → not b ≡ true → b ≡ false
free_of true e = absurd cc
free_of false e = refl

opens : (l : Line) (is : Items) (os : List Open) (ls : List Line) → Good ls (state is os) → Opened (heads os) (l ∷ []) (opened is l) → Good (ls ++ l ∷ []) (state done (opened is l ∷ os))
opens l is os ls g o = (ls ++ l ∷ [], sym (append-nil (ls ++ l ∷ [])), (g.0, l ∷ [], ap (λ x. x ++ l ∷ []) g.1 ∙ append_assoc g.0 (flat is) (l ∷ []), g.2, g.3, o), refl)

added : (ls xs is : List Line) (l : Line) → ls ≡ xs ++ is → ls ++ l ∷ [] ≡ xs ++ (is ++ l ∷ [])
added ls xs is l at = ap (λ x. x ++ l ∷ []) at ∙ append_assoc xs is (l ∷ [])

inner : (ls xs is us before ws whole : List Line) → ls ≡ xs ++ is → xs ≡ us ++ (before ++ ws) → whole ≡ ws ++ is → ls ≡ us ++ (before ++ whole)
inner ls xs is us before ws whole at lines e = at ∙ ap (λ x. x ++ is) lines ∙ append_assoc us (before ++ ws) is ∙ ap (λ x. us ++ x) (append_assoc before ws is ∙ ap (λ x. before ++ x) (sym e))

loop_lines : (before : Items) (h : Line) (is : Items) (us w ws ls : List Line) → ws ≡ us ++ (flat before ++ w) → w ≡ h ∷ [] → ls ≡ ws ++ flat is → ls ≡ us ++ flat (join before (loop h is done))
loop_lines before h is us w ws ls lines single at =
    inner ls ws (flat is) us (flat before) w (h ∷ (flat is ++ [])) at lines (ap (λ x. h ∷ x) (append-nil (flat is)) ∙ ap (λ x. x ++ flat is) (sym single))
    ∙ ap (λ x. us ++ x) (sym (flat_join before (loop h is done)))

no_do : {P : Type 0} (s : Sort) (t : ℕ) → s ≡ Do t → is_arm s ≡ true → P
no_do s t e is = no (sym (ap is_arm e) ∙ is)

no_arm : {P : Type 0} (k : ℕ) (s : Sort) → is_arm s ≡ true → names k s ≡ true → P
no_arm k (Do t) a n = no a
no_arm k Plain a n = no a
no_arm k Leaving a n = no a
no_arm k EndIf a n = no n
no_arm k If a n = no n
no_arm k ElseIf a n = no n
no_arm k Else a n = no n

if_or_else_if : (s : Sort) → is_if s ≡ true → (s ≡ If) ⊎ (s ≡ ElseIf)
if_or_else_if If is = inl refl
if_or_else_if ElseIf is = inr refl
if_or_else_if (Do t) is = no is
if_or_else_if Plain is = no is
if_or_else_if Leaving is = no is
if_or_else_if EndIf is = no is
if_or_else_if Else is = no is

parts : (l : Line) (is : Items) (os : List Open) (ls : List Line) → ((sort l) ≡ ElseIf) ⊎ ((sort l) ≡ Else) → is_arm (sort l) ≡ true → Good ls (state is os) → may_part (heads os) ≡ true → Good (ls ++ l ∷ []) (parted l is os)
parts l is [] ls of_sort part g fit = no fit
parts l is (o ∷ os) ls of_sort part (xs, at, (us, ws, lines, outer, before, inl d), inside) fit = no (sym (ap is_if d.1) ∙ fit)
parts l is (o ∷ os) ls of_sort part (xs, at, (us, ws, lines, outer, before, inr a), inside) fit =
    (ls ++ l ∷ [], sym (append-nil (ls ++ l ∷ [])), (us, ws ++ (flat is ++ l ∷ []), inner (ls ++ l ∷ []) xs (flat is ++ l ∷ []) us (flat o.before) ws (ws ++ (flat is ++ l ∷ [])) (added ls xs (flat is) l at) lines refl, outer, before, inr (part, further)), refl)
  where
    Whole : Arms → Arms → Type 0
    Whole more arms = ((sort (first_line arms)) ≡ If) × Free (heads os) (first_line arms) × NestsArms (heads os) arms × (first_line arms ∷ flat_arms arms ≡ (ws ++ (flat is ++ l ∷ [])) ++ flat_arms more)

    further : (arms : Arms) → first_line arms ≡ l → NestsArms (heads os) arms → Whole arms (arms_before (o.arms ++ record { head = o.head; items = is } ∷ []) arms)
    further arms first n =
        let sorts : ((sort (first_line arms)) ≡ ElseIf) ⊎ ((sort (first_line arms)) ≡ Else) = subst (λ (h : Line). ((sort h) ≡ ElseIf) ⊎ ((sort h) ≡ Else)) (sym first) of_sort in
        let old = a.1 (arm o.head is arms) refl (inside, (if_or_else_if (sort o.head) fit, sorts), n) in
        subst (Whole arms) (sym (before_more o.arms o.head is arms))
        (old.0, old.1, old.2, old.3 ∙ ap (λ h. ws ++ (flat is ++ h ∷ flat_arms arms)) first ∙ ap (λ x. ws ++ x) (sym (append_assoc (flat is) (l ∷ []) (flat_arms arms))) ∙ sym (append_assoc ws (flat is ++ l ∷ []) (flat_arms arms)))

closes : (l : Line) (is : Items) (os : List Open) (ls : List Line) → (sort l) ≡ EndIf → Good ls (state is os) → may_close (heads os) ≡ true → Good (ls ++ l ∷ []) (closed l is os)
closes l is [] ls of_sort g fit = no fit
closes l is (o ∷ os) ls of_sort (xs, at, (us, ws, lines, outer, before, inl d), inside) fit = no_do (sort o.head) d.0 d.1 fit
closes l is (o ∷ os) ls of_sort (xs, at, (us, ws, lines, outer, before, inr a), inside) fit =
    let arms : Arms = arms_before o.arms (last o.head is) in
    let whole = a.1 (last o.head is) refl inside in (
      us,
      inner (ls ++ l ∷ []) xs (flat is ++ l ∷ []) us (flat o.before) ws ((first_line arms ∷ flat_arms arms) ++ l ∷ []) (added ls xs (flat is) l at) lines (ap (λ x. x ++ l ∷ []) whole.3 ∙ append_assoc ws (flat is) (l ∷ []))
          ∙ ap (λ x. us ++ x) (sym (flat_join o.before (block arms l done))),
      outer,
      nests_join false (heads os) o.before (block arms l done) before (whole.0, whole.1, whole.2, of_sort, refl),
    )

-- a DO ends, and those outside that share its terminal statement
ends : (k : ℕ) (os : List Open) (o : Open) (is : Items) (ws ls : List Line) → names k (sort o.head) ≡ true → Nests true (mark o.head ∷ heads os) is → in_own_list k (heads os) ≡ true → Opens ws (o ∷ os) → ls ≡ ws ++ flat is
    → Good ls (ended k (join o.before (loop o.head is done)) os)
ends k os o is ws ls names_it n own (us, w, lines, outer, before, inr a) at = no_arm k (sort o.head) a.0 names_it
ends k [] o is ws ls names_it n own (us, w, lines, outer, before, inl (t, of_sort, free, single)) at =
    (us, loop_lines o.before o.head is us w ws ls lines single at, outer, nests_join false [] o.before (loop o.head is done) before (t, of_sort, free, n, inl (refl, refl)))
ends k (p ∷ os) o is ws ls names_it n own (us, w, lines, outer, before, inl (t, of_sort, free, single)) at =
    go (names k (sort p.head)) refl (λ e. ends k os p xs us ls e (shares e) (sym (ap (λ b. if b then in_own_list k (heads os) else not (named k (heads os))) e) ∙ own) outer lines_of)
  where
    hs : List Mark
    hs = heads (p ∷ os)

    xs : Items
    xs = join o.before (loop o.head is done)

    lines_of : ls ≡ us ++ flat xs
    lines_of = loop_lines o.before o.head is us w ws ls lines single at

    same : t ≡ k
    same = eqb-true t k (sym (ap (names k) of_sort) ∙ names_it)

    shares : names k (sort p.head) ≡ true → Nests true hs xs
    shares e = nests_join true hs o.before (loop o.head is done) before (t, of_sort, free, n, inr (refl, ap (λ j. names j (sort p.head)) same ∙ e, refl))

    go : (b : Bool) → names k (sort p.head) ≡ b → (names k (sort p.head) ≡ true → Good ls (ended k (join p.before (loop p.head xs done)) os)) → Good ls (ended k xs (p ∷ os))
    go true e rec = subst (λ b. Good ls (if b then ended k (join p.before (loop p.head xs done)) os else state xs (p ∷ os))) (sym e) (rec e)
    go false e rec =
        let others : named k (heads os) ≡ false = free_of _ (sym (ap (λ b. if b then in_own_list k (heads os) else not (named k (heads os))) e) ∙ own) in
        let fresh : named t hs ≡ false = ap (λ j. named j hs) same ∙ ap (λ b. b || named k (heads os)) e ∙ others in
        subst (λ b. Good ls (if b then ended k (join p.before (loop p.head xs done)) os else state xs (p ∷ os))) (sym e)
        (us, lines_of, outer, nests_join false hs o.before (loop o.head is done) before (t, of_sort, free, n, inl (fresh, refl)))

-- a simple statement that is no terminal statement
adds : (l : Line) (is : Items) (os : List Open) (ls : List Line) → Good ls (state is os) → ((sort l) ≡ Plain) ⊎ ((sort l) ≡ Leaving) → Free (heads os) l → Good (ls ++ l ∷ []) (state (join is (simple l done)) os)
adds l is os ls g of_sort free =
    (g.0, added ls g.0 (flat is) l g.1 ∙ ap (λ x. g.0 ++ x) (sym (flat_join is (simple l done))), g.2, nests_join false (heads os) is (simple l done) g.3 (inl ((of_sort, free), refl)))

ends_or_not : (l : Line) (is : Items) (os : List Open) (ls : List Line) → Good ls (state is os) → (sort l) ≡ Plain → in_own_list l.label (heads os) ≡ true → Good (ls ++ l ∷ []) (ended l.label (join is (simple l done)) os)
ends_or_not l is [] ls g of_sort own = adds l is [] ls g (inl of_sort) refl
ends_or_not l is (o ∷ os) ls g of_sort own = go (names k (sort o.head)) refl
  where
    k : ℕ
    k = l.label

    hs : List Mark
    hs = heads (o ∷ os)

    xs : Items
    xs = join is (simple l done)

    go : (b : Bool) → names k (sort o.head) ≡ b → Good (ls ++ l ∷ []) (ended k xs (o ∷ os))
    go true e = subst (λ b. Good (ls ++ l ∷ []) (if b then ended k (join o.before (loop o.head xs done)) os else state xs (o ∷ os))) (sym e)
        (ends k os o xs g.0 (ls ++ l ∷ []) e (nests_join true hs is (simple l done) g.3 (inr (refl, of_sort, e, refl))) (sym (ap (λ b. if b then in_own_list k (heads os) else not (named k (heads os))) e) ∙ own) g.2
        (added ls g.0 (flat is) l g.1 ∙ ap (λ x. g.0 ++ x) (sym (flat_join is (simple l done)))))
    go false e = subst (λ b. Good (ls ++ l ∷ []) (if b then ended k (join o.before (loop o.head xs done)) os else state xs (o ∷ os))) (sym e)
        (adds l is (o ∷ os) ls g (inl of_sort) (ap (λ b. b || named k (heads os)) e ∙ free_of _ (sym (ap (λ b. if b then in_own_list k (heads os) else not (named k (heads os))) e) ∙ own)))

steps : (l : Line) (is : Items) (os : List Open) (ls : List Line) (s : Sort) → (sort l) ≡ s → Good ls (state is os) → fits_sort s l.label (heads os) ≡ true → Good (ls ++ l ∷ []) (moved s l is os)
steps l is os ls Plain of_sort g fit = ends_or_not l is os ls g of_sort fit
steps l is os ls Leaving of_sort g fit = subst (Good (ls ++ l ∷ [])) (sym (ended_free l.label (join is (simple l done)) os (free_of _ fit))) (adds l is os ls g (inr of_sort) (free_of _ fit))
steps l is os ls (Do t) of_sort g fit = opens l is os ls g (inl (t, of_sort, free_of _ fit, refl))
steps l is os ls If of_sort g fit = opens l is os ls g (inr (ap is_arm of_sort, λ arms first n. (ap (λ (h : Line). (sort h)) first ∙ of_sort, ap (λ (h : Line). named h.label (heads os)) first ∙ free_of _ fit, n, ap (λ h. h ∷ flat_arms arms) first)))
steps l is os ls ElseIf of_sort g fit = parts l is os ls (inl of_sort) (ap is_arm of_sort) g fit
steps l is os ls Else of_sort g fit = parts l is os ls (inr of_sort) (ap is_arm of_sort) g fit
steps l is os ls EndIf of_sort g fit = closes l is os ls of_sort g fit

sound : (s : State) (ls before : List Line) (items : Items) → Good before s → run s ls ≡ Some items → IsNesting (before ++ ls) items
sound s [] before items g is = at_end s.items s.open_ g is
  where
    at_end : (xs : Items) (os : List Open) → Good before (state xs os) → end_of xs os ≡ Some items → IsNesting (before ++ []) items
    at_end xs [] (ws, at, nothing, n) e =
        let same : xs ≡ items = cc in
        (ap flat (sym same) ∙ ap (λ w. w ++ flat xs) (sym nothing) ∙ sym at ∙ sym (append-nil before), subst (Nests false []) same n)
    at_end xs (o ∷ os) h e = absurd cc
sound s (l ∷ ls) before items g is = go (fits (heads s.open_) (mark l)) refl is (λ h e. sound (step s l) ls (before ++ l ∷ []) items h e)
  where
    go : (b : Bool) → fits (heads s.open_) (mark l) ≡ b → (if b then run (step s l) ls else None) ≡ Some items
        → (Good (before ++ l ∷ []) (step s l) → run (step s l) ls ≡ Some items → IsNesting ((before ++ l ∷ []) ++ ls) items) → IsNesting (before ++ l ∷ ls) items
    go true fit e rec = subst (λ x. IsNesting x items) (append_assoc before (l ∷ []) ls) (rec (steps l s.items s.open_ before (sort l) refl g fit) e)
    go false fit e rec = absurd cc

pub nests : (lines : List Line) (items : Items) → run start lines ≡ Some items → IsNesting lines items
nests lines items is = sound start lines [] items ([], refl, refl, refl) is
