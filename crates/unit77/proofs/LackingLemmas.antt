-- A DO is refused for lacking a terminal statement exactly where it has none in its own list.
use Rattle.std.proofs.Common.{◌≡◌, ℕ, Bool, true, false, not, ◌&&◌, ◌||◌, List, [], ◌∷◌, ◌++◌, map, get_or, refl, sym, ap, ◌∙◌, subst}
use Rattle.std.specs.Prelude.{if◌then◌else◌, ◌==◌, Contains}
use Rattle.std.specs.List.{list_any}
use Rattle.std.proofs.Math.Bool.{or-false, or_comm}
use Rattle.std.proofs.lemmas.Bool.{eqb-true, eq-eqb, and_parts, and_right, or_parts, and_from, or_from, or_right, cond_both, false≢true, false_from_ne_true}
use Rattle.std.proofs.lemmas.List.Folds.{list_any-append, list_any_at, Any-from_list_any}
use Rattle.order77.specs.declared.mark.Sort.{Sort}
use Rattle.order77.specs.declared.mark.Sort.TheVariants.{Leaving, Do, If, ElseIf, Else, EndIf}
use Rattle.order77.specs.declared.mark.Mark.{Mark}
use Rattle.order77.specs.declared.mark.Stray.{Stray}
use Rattle.order77.specs.declared.mark.Fault.{Fault}
use Rattle.order77.specs.declared.mark.Fault.TheVariants.{Terminal}
use Rattle.unit77.specs.Nesting.{names}
use Rattle.unit77.specs.Running.{is_if, is_arm}
use Rattle.unit77.specs.Refusals.{without, next_open, next, naming, strays, ended_wrongly, terminal_of, lacking, wrong, shown, is_loop, loops, unended, all_shown}
use Rattle.unit77.specs.OwnLists.{is_part, is_terminal, HasTerminal, OwnLists}
use Rattle.unit77.proofs.OwnListLemmas.{all_name, finds, next_do, has_terminal, finds_terminal}

-- ---- what is shown of some statements

any_map : {X Y : Type 0} (p : Y → Bool) (f : X → Y) (xs : List X) → list_any p (map f xs) ≡ list_any (λ x. p (f x)) xs
any_map p f [] = refl
any_map p f (x ∷ xs) = ap (λ b. p (f x) || b) (any_map p f xs)

any_cases : {X : Type 0} (p : X → Bool) (b : Bool) (xs ys : List X) → list_any p xs ≡ false → list_any p ys ≡ false → list_any p (if b then xs else ys) ≡ false
any_cases p b xs ys e f = cond_both b xs ys (λ zs. list_any p zs ≡ false) (λ _. e) (λ _. f)

module _ (p : Mark → Bool) where
  none_also : (q : Mark → Bool) (hs : List Mark) → list_any p hs ≡ false → list_any (λ h. q h && p h) hs ≡ false
  none_also q [] none = refl
  none_also q (h ∷ hs) none = let parts = or_parts (p h) _ none in or_from _ _ (and_right (q h) (p h) parts.0) (none_also q hs parts.1)

  any_picked : (b : Bool) (h : Mark) (xs : List Mark) (r : Bool) → list_any p xs ≡ r → list_any p (if b then xs ++ h ∷ [] else xs) ≡ (b && p h || r)
  any_picked false h xs r e = e
  any_picked true h xs r e = list_any-append p xs (h ∷ []) ∙ ap (λ a. a || (p h || false)) e ∙ ap (λ b. r || b) (or-false (p h)) ∙ or_comm r (p h)

  any_naming : (k : ℕ) (hs : List Mark) → list_any p (naming k hs) ≡ list_any (λ (h : Mark). names k h.sort && p h) hs
  any_naming k [] = refl
  any_naming k (h ∷ hs) = any_picked (names k h.sort) h (naming k hs) _ (any_naming k hs)

  any_loops : (hs : List Mark) → list_any p (loops hs) ≡ list_any (λ (h : Mark). is_loop h.sort && p h) hs
  any_loops [] = refl
  any_loops (h ∷ hs) = any_picked (is_loop h.sort) h (loops hs) _ (any_loops hs)

  none_without : (k : ℕ) (hs : List Mark) → list_any p hs ≡ false → list_any p (without k hs) ≡ false
  none_without k [] none = refl
  none_without k (h ∷ hs) none =
      let parts = or_parts (p h) (list_any p hs) none in
      any_cases p (names k h.sort) (without k hs) (h ∷ without k hs) (none_without k hs parts.1) (or_from _ _ parts.0 (none_without k hs parts.1))

  none_next : (s : Sort) (m : Mark) (hs : List Mark) → p m ≡ false → list_any p hs ≡ false → list_any p (next_open s m hs) ≡ false
  none_next (Do t) m hs new none = or_from _ _ new (none_without m.label hs none)
  none_next If m hs new none = or_from _ _ new (none_without m.label hs none)
  none_next ElseIf m [] new none = refl
  none_next Else m [] new none = refl
  none_next EndIf m [] new none = refl
  none_next ElseIf m (h ∷ hs) new none = any_cases p (is_if h.sort) (m ∷ hs) (h ∷ hs) (or_from _ _ new (or_parts _ _ none).1) none
  none_next Else m (h ∷ hs) new none = any_cases p (is_if h.sort) (m ∷ hs) (h ∷ hs) (or_from _ _ new (or_parts _ _ none).1) none
  none_next EndIf m (h ∷ hs) new none = any_cases p (is_arm h.sort) hs (h ∷ hs) (or_parts _ _ none).1 none
  none_next _ m hs new none = none_without m.label hs none

  none_strays : (k : ℕ) (hs : List Mark) → list_any (λ (h : Mark). names k h.sort && p h) hs ≡ false → list_any p (strays k hs) ≡ false
  none_strays k [] none = refl
  none_strays k (h ∷ hs) none = let parts = or_parts _ _ none in any_cases p (names k h.sort) (strays k hs) (naming k hs) (none_strays k hs parts.1) (any_naming k hs ∙ parts.1)

  none_ended : (s : Sort) (k : ℕ) (hs : List Mark) → list_any p hs ≡ false → list_any p (ended_wrongly s k hs) ≡ false
  none_ended ElseIf k hs none = refl
  none_ended Else k hs none = refl
  none_ended EndIf k hs none = refl
  none_ended _ k hs none = none_strays k hs (none_also (λ (h : Mark). names k h.sort) hs none)

  none_unended : (k : ℕ) (hs : List Mark) → list_any p hs ≡ false → list_any p (unended k hs) ≡ false
  none_unended k [] none = refl
  none_unended k (h ∷ hs) none = any_cases p (names k h.sort) (unended k hs) (loops (h ∷ hs)) (none_unended k hs (or_parts (p h) _ none).1) (any_loops (h ∷ hs) ∙ none_also (λ (x : Mark). is_loop x.sort) (h ∷ hs) none)

-- ---- one DO

-- whether a fault is that of a DO that lacks a terminal statement with the label
abbrev lacks_label : ℕ → Fault → Bool
lacks_label t (Terminal u) = u == t
lacks_label t _ = false

module _ (h : Mark) (t : ℕ) (do_ : h.sort ≡ Do t) where
  abbrev refuses_it : Stray → Bool
  refuses_it s = lacks_label t s.fault && (s.number == h.number)

  abbrev it : Mark → Bool
  it m = refuses_it (lacking m)

  it_is : it h ≡ true
  it_is = and_from _ _ (eq-eqb _ _ (ap terminal_of do_)) (eq-eqb _ _ refl)

  it_alone : (s : Stray) → refuses_it s ≡ true → s ≡ lacking h
  it_alone s e =
      let parts = and_parts (lacks_label t s.fault) (s.number == h.number) e in
      ap (λ (n : ℕ). record { number = n; fault = s.fault }) (eqb-true s.number h.number parts.1) ∙ ap (λ (f : Fault). record { number = h.number; fault = f }) (labelled s.fault parts.0 ∙ ap Terminal (sym (ap terminal_of do_)))
    where
      labelled : (f : Fault) → lacks_label t f ≡ true → f ≡ Terminal t
      labelled (Terminal u) e = ap Terminal (eqb-true u t e)
      labelled _ e = absurd (false≢true e)

  -- a refusal of another sort stands before those of DOs
  any_lacking : (b : Bool) (m : Mark) (late : List Mark) → list_any refuses_it ((if b then wrong m ∷ [] else []) ++ map lacking late) ≡ list_any it late
  any_lacking true m late = any_map refuses_it lacking late
  any_lacking false m late = any_map refuses_it lacking late

  any_shown : (hs : List Mark) (m : Mark) (further : List Stray) → list_any refuses_it (shown hs m ++ further) ≡ (list_any it (ended_wrongly m.sort m.label hs) || list_any refuses_it further)
  any_shown hs m further = list_any-append refuses_it (shown hs m) further ∙ ap (λ b. b || list_any refuses_it further) (any_lacking _ m (ended_wrongly m.sort m.label hs))

  -- it is neither open nor among the statements
  none_shown : (e : Mark) (hs ms : List Mark) → list_any it hs ≡ false → list_any it ms ≡ false → list_any refuses_it (all_shown e hs ms) ≡ false
  none_shown e hs [] none others = any_lacking _ e (unended e.label hs) ∙ none_unended it e.label hs none
  none_shown e hs (m ∷ ms) none others =
      let parts = or_parts (it m) _ others in
      any_shown hs m (all_shown e (next hs m) ms) ∙ or_from _ _ (none_ended it m.sort m.label hs none) (none_shown e (next hs m) ms (none_next it m.sort m hs parts.0 none) parts.1)

  found_in : (q : Mark → Bool) (is hs : List Mark) → q h ≡ true → list_any (λ x. q x && it x) (is ++ h ∷ hs) ≡ true
  found_in q is hs e = list_any-append (λ x. q x && it x) is (h ∷ hs) ∙ or_right _ _ (ap (λ b. b || list_any (λ x. q x && it x) hs) (and_from _ _ e it_is))

  any_strays : (k : ℕ) (is hs : List Mark) → names k h.sort ≡ true → list_any it hs ≡ false → list_any it (strays k (is ++ h ∷ hs)) ≡ not (all_name k is)
  any_strays k [] hs e none = ap (λ b. list_any it (if b then strays k hs else naming k hs)) e ∙ none_strays it k hs (none_also it (λ (x : Mark). names k x.sort) hs none)
  any_strays k (i ∷ is) hs e none = elim (names k i.sort) as (λ b. list_any it (if b then strays k (is ++ h ∷ hs) else naming k (is ++ h ∷ hs)) ≡ not (b && all_name k is)) [
    | true ↦ any_strays k is hs e none
    | false ↦ any_naming it k (is ++ h ∷ hs) ∙ found_in (λ (x : Mark). names k x.sort) is hs e
  ]

  any_unended : (k : ℕ) (is hs : List Mark) → list_any it hs ≡ false → list_any it (unended k (is ++ h ∷ hs)) ≡ not (names k h.sort && all_name k is)
  any_unended k [] hs none = elim (names k h.sort) as (λ b. list_any it (if b then unended k hs else loops (h ∷ hs)) ≡ not (b && true)) [
    | true ↦ none_unended it k hs none
    | false ↦ any_loops it (h ∷ hs) ∙ found_in (λ (x : Mark). is_loop x.sort) [] hs (ap is_loop do_)
  ]
  any_unended k (i ∷ is) hs none = elim (names k i.sort) as (λ b. list_any it (if b then unended k (is ++ h ∷ hs) else loops (i ∷ (is ++ h ∷ hs))) ≡ not (names k h.sort && (b && all_name k is))) [
    | true ↦ any_unended k is hs none
    | false ↦ any_loops it (i ∷ (is ++ h ∷ hs)) ∙ found_in (λ (x : Mark). is_loop x.sort) (i ∷ is) hs (ap is_loop do_) ∙ sym (ap not (and_right (names k h.sort) false refl))
  ]

  -- the DOs on the stack that name the label of a statement
  at_label : (k : ℕ) (is : List Mark) → (names k h.sort && all_name k is) ≡ (if t == k then all_name t is else false)
  at_label k is = ap (λ r. names k r && all_name k is) do_ ∙ go (t == k) refl
    where
      go : (b : Bool) → (t == k) ≡ b → (b && all_name k is) ≡ (if b then all_name t is else false)
      go true same = ap (λ j. all_name j is) (sym (eqb-true t k same))
      go false other = refl

  any_ended : (m : Mark) (is hs : List Mark) → list_any it is ≡ false → list_any it hs ≡ false → list_any it (ended_wrongly m.sort m.label (is ++ h ∷ hs)) ≡ (is_terminal t m && not (all_name t is))
  any_ended m is hs above below = go m.sort
    where
      ends : (b : Bool) → (t == m.label) ≡ b → list_any it (strays m.label (is ++ h ∷ hs)) ≡ (b && not (all_name t is))
      ends true same = any_strays m.label is hs (ap (names m.label) do_ ∙ same) below ∙ ap (λ k. not (all_name k is)) (sym (eqb-true t m.label same))
      ends false other = none_strays it m.label (is ++ h ∷ hs) (list_any-append (λ (x : Mark). names m.label x.sort && it x) is (h ∷ hs)
          ∙ or_from _ _ (none_also it (λ (x : Mark). names m.label x.sort) is above) (or_from _ _ (ap (λ b. b && it h) (ap (names m.label) do_ ∙ other)) (none_also it (λ (x : Mark). names m.label x.sort) hs below)))

      go : (s : Sort) → list_any it (ended_wrongly s m.label (is ++ h ∷ hs)) ≡ ((not (is_part s) && (t == m.label)) && not (all_name t is))
      go ElseIf = refl
      go Else = refl
      go EndIf = refl
      go _ = ends (t == m.label) refl

  -- it is open
  any_behind : (e : Mark) (is hs after : List Mark) → e.sort ≡ Leaving → list_any it is ≡ false → list_any it hs ≡ false → list_any it after ≡ false → list_any refuses_it (all_shown e (is ++ h ∷ hs) after) ≡ not (finds t is (after ++ e ∷ []))
  any_behind e is hs [] leaving above below others = any_lacking _ e (unended e.label (is ++ h ∷ hs)) ∙ any_unended e.label is hs below
      ∙ ap not (at_label e.label is ∙ sym (ap (λ r. if not (is_part r) && (t == e.label) then all_name t is else false) leaving))
  any_behind e is hs (m ∷ after) leaving above below others =
      let parts = or_parts (it m) (list_any it after) others in
      let free = none_next it m.sort m is parts.0 above in
      let rest = if is_part m.sort then hs else without m.label hs in
      any_shown (is ++ h ∷ hs) m (all_shown e (next (is ++ h ∷ hs) m) after)
      ∙ ap (λ b. b || list_any refuses_it (all_shown e (next (is ++ h ∷ hs) m) after)) (any_ended m is hs above below)
      ∙ ap (λ xs. (is_terminal t m && not (all_name t is)) || list_any refuses_it (all_shown e xs after)) (next_do m h is hs t do_)
      ∙ elim (is_terminal t m) as (λ b. ((b && not (all_name t is)) || list_any refuses_it (all_shown e (next is m ++ (if b then without m.label hs else h ∷ rest)) after))
      ≡ not (if b then all_name t is else finds t (next is m) (after ++ e ∷ []))) [
        | true ↦ ap (λ b. not (all_name t is) || b) (none_shown e (next is m ++ without m.label hs) after (list_any-append it (next is m) (without m.label hs) ∙ or_from _ _ free (none_without it m.label hs below)) parts.1) ∙ or-false _
        | false ↦ any_behind e (next is m) rest after leaving free (any_cases it (is_part m.sort) hs (without m.label hs) below (none_without it m.label hs below)) parts.1
      ]

  -- it stands among the statements
  any_among : (e : Mark) (hs before after : List Mark) → e.sort ≡ Leaving → list_any it hs ≡ false → list_any it before ≡ false → list_any it after ≡ false → list_any refuses_it (all_shown e hs (before ++ h ∷ after)) ≡ not (finds t [] (after ++ e ∷ []))
  any_among e hs [] after leaving none earlier later =
      any_shown hs h (all_shown e (next hs h) after) ∙ ap (λ b. b || list_any refuses_it (all_shown e (next hs h) after)) (none_ended it h.sort h.label hs none)
      ∙ ap (λ s. list_any refuses_it (all_shown e (next_open s h hs) after)) do_ ∙ any_behind e [] (without h.label hs) after leaving refl (none_without it h.label hs none) later
  any_among e hs (m ∷ before) after leaving none earlier later =
      let parts = or_parts (it m) (list_any it before) earlier in
      any_shown hs m (all_shown e (next hs m) (before ++ h ∷ after)) ∙ ap (λ b. b || list_any refuses_it (all_shown e (next hs m) (before ++ h ∷ after))) (none_ended it m.sort m.label hs none)
      ∙ any_among e (next hs m) before after leaving (none_next it m.sort m hs parts.0 none) parts.1 later

-- ---- the law

pub own_lists : OwnLists
own_lists before after h e t do_ leaving alone = (refused, λ none. lacked (same ∙ ap not (false_from_ne_true (finds t [] (after ++ e ∷ [])) (λ f. none (has_terminal t (after ++ e ∷ []) f)))))
  where
    others : (ms : List Mark) → list_any (λ (m : Mark). m.number == h.number) ms ≡ false → list_any (it h t do_) ms ≡ false
    others ms none = none_also (λ (m : Mark). m.number == h.number) (λ m. terminal_of m.sort == t) ms none

    same : list_any (refuses_it h t do_) (all_shown e [] (before ++ h ∷ after)) ≡ not (finds t [] (after ++ e ∷ []))
    same =
        let parts = or_parts _ _ (sym (list_any-append (λ (m : Mark). m.number == h.number) before after) ∙ alone) in
        any_among h t do_ e [] before after leaving refl (others before parts.0) (others after parts.1)

    refused : Contains (all_shown e [] (before ++ h ∷ after)) (lacking h) → HasTerminal t (after ++ e ∷ []) → ⊥
    refused (k, low, at) has = false≢true (sym (ap not (finds_terminal t (after ++ e ∷ []) has)) ∙ sym same
        ∙ list_any_at (refuses_it h t do_) (all_shown e [] (before ++ h ∷ after)) k (lacking h) low (ap (refuses_it h t do_) at ∙ it_is h t do_))

    lacked : list_any (refuses_it h t do_) (all_shown e [] (before ++ h ∷ after)) ≡ true → Contains (all_shown e [] (before ++ h ∷ after)) (lacking h)
    lacked any =
        let (k, s, low, at, it_) = Any-from_list_any (refuses_it h t do_) (all_shown e [] (before ++ h ∷ after)) any in
        (k, low, subst (λ x. get_or (all_shown e [] (before ++ h ∷ after)) k x ≡ x) (it_alone h t do_ s it_) at)
