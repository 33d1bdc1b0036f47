-- A construct is open behind statements exactly where it isn't ended among them.
use Rattle.std.proofs.Common.{◌≡◌, ◌⊎◌, inl, inr, ℕ, Bool, true, false, not, ◌&&◌, ◌||◌, List, [], ◌∷◌, ◌++◌, refl, sym, ap, ◌∙◌, subst, append_assoc, append-nil}
use Rattle.std.specs.Prelude.{if◌then◌else◌, ◌==◌}
use Rattle.std.specs.List.{list_any, list_all}
use Rattle.std.proofs.lemmas.Bool.{and_parts, or_parts, and_from, or_from, false≢true, cond_both}
use Rattle.std.proofs.lemmas.List.Folds.{list_all-append}
use Rattle.order77.specs.declared.mark.Sort.{Sort}
use Rattle.order77.specs.declared.mark.Sort.TheVariants.{Do, If, ElseIf, Else, EndIf}
use Rattle.order77.specs.declared.mark.Mark.{Mark}
use Rattle.unit77.specs.Nesting.{names}
use Rattle.unit77.specs.Running.{is_if, is_arm}
use Rattle.unit77.specs.Refusals.{without, next_open, next}
use Rattle.unit77.specs.Units.{begins}
use Rattle.unit77.specs.OwnLists.{is_part, is_terminal, IsEnded, by_label, by_end_if, HasTerminal}

-- ---- the stack of open constructs

-- behind some statements
abbrev pub stack : List Mark → List Mark → List Mark
stack hs [] = hs
stack hs (m ∷ ms) = stack (next hs m) ms

-- all are DOs that name the label
abbrev pub all_name : ℕ → List Mark → Bool
all_name t hs = list_all (λ (h : Mark). names t h.sort) hs

abbrev is_empty : List Mark → Bool
is_empty [] = true
is_empty (h ∷ hs) = false

-- what a statement leaves of constructs below others, and what statements leave
abbrev left : Sort → Mark → List Mark → List Mark → List Mark
left s m is hs = if is_part s then (if is_empty is then next_open s m hs else hs) else without m.label hs

abbrev leaves : List Mark → List Mark → List Mark → List Mark
leaves is hs [] = hs
leaves is hs (m ∷ ms) = leaves (next is m) (left m.sort m is hs) ms

if_append : (b : Bool) (xs ys hs : List Mark) → (if b then xs ++ hs else ys ++ hs) ≡ (if b then xs else ys) ++ hs
if_append true xs ys hs = refl
if_append false xs ys hs = refl

without_append : (k : ℕ) (xs ys : List Mark) → without k (xs ++ ys) ≡ without k xs ++ without k ys
without_append k [] ys = refl
without_append k (x ∷ xs) ys = ap (λ w. if names k x.sort then w else x ∷ w) (without_append k xs ys) ∙ if_append (names k x.sort) (without k xs) (x ∷ without k xs) (without k ys)

next_over : (s : Sort) (m : Mark) (is hs : List Mark) → next_open s m (is ++ hs) ≡ next_open s m is ++ left s m is hs
next_over ElseIf m (i ∷ is) hs = if_append (is_if i.sort) (m ∷ is) (i ∷ is) hs
next_over Else m (i ∷ is) hs = if_append (is_if i.sort) (m ∷ is) (i ∷ is) hs
next_over EndIf m (i ∷ is) hs = if_append (is_arm i.sort) is (i ∷ is) hs
next_over (Do t) m (i ∷ is) hs = ap (λ xs. m ∷ xs) (without_append m.label (i ∷ is) hs)
next_over If m (i ∷ is) hs = ap (λ xs. m ∷ xs) (without_append m.label (i ∷ is) hs)
next_over _ m [] hs = refl
next_over _ m is hs = without_append m.label is hs

stack_over : (is hs ms : List Mark) → stack (is ++ hs) ms ≡ stack is ms ++ leaves is hs ms
stack_over is hs [] = refl
stack_over is hs (m ∷ ms) = ap (λ xs. stack xs ms) (next_over m.sort m is hs) ∙ stack_over (next is m) (left m.sort m is hs) ms

left_none : (s : Sort) (m : Mark) (is : List Mark) → left s m is [] ≡ []
left_none ElseIf m [] = refl
left_none ElseIf m (i ∷ is) = refl
left_none _ m [] = refl
left_none _ m (i ∷ is) = refl

leaves_none : (is ms : List Mark) → leaves is [] ms ≡ []
leaves_none is [] = refl
leaves_none is (m ∷ ms) = ap (λ hs. leaves (next is m) hs ms) (left_none m.sort m is) ∙ leaves_none (next is m) ms

-- ---- a DO on the stack

left_do : (s : Sort) (m h : Mark) (is hs : List Mark) (t : ℕ) → h.sort ≡ Do t → left s m is (h ∷ hs) ≡ (if not (is_part s) && (t == m.label) then without m.label hs else h ∷ (if is_part s then hs else without m.label hs))
left_do ElseIf m h [] hs t do_ = ap (λ r. if is_if r then m ∷ hs else h ∷ hs) do_
left_do Else m h [] hs t do_ = ap (λ r. if is_if r then m ∷ hs else h ∷ hs) do_
left_do EndIf m h [] hs t do_ = ap (λ r. if is_arm r then hs else h ∷ hs) do_
left_do ElseIf m h (i ∷ is) hs t do_ = refl
left_do Else m h (i ∷ is) hs t do_ = refl
left_do EndIf m h (i ∷ is) hs t do_ = refl
left_do _ m h is hs t do_ = ap (λ r. if names m.label r then without m.label hs else h ∷ without m.label hs) do_

pub next_do : (m h : Mark) (is hs : List Mark) (t : ℕ) → h.sort ≡ Do t → next (is ++ h ∷ hs) m ≡ next is m ++ (if is_terminal t m then without m.label hs else h ∷ (if is_part m.sort then hs else without m.label hs))
next_do m h is hs t do_ = next_over m.sort m is (h ∷ hs) ∙ ap (λ xs. next is m ++ xs) (left_do m.sort m h is hs t do_)

do_leaves : (h : Mark) (is ms : List Mark) (t : ℕ) → h.sort ≡ Do t → leaves is (h ∷ []) ms ≡ (if list_any (is_terminal t) ms then [] else h ∷ [])
do_leaves h is [] t do_ = refl
do_leaves h is (m ∷ ms) t do_ = ap (λ hs. leaves (next is m) hs ms) (left_do m.sort m h is [] t do_) ∙ go (is_part m.sort) (t == m.label) (do_leaves h (next is m) ms t do_)
  where
    go : (p b : Bool) → leaves (next is m) (h ∷ []) ms ≡ (if list_any (is_terminal t) ms then [] else h ∷ [])
        → leaves (next is m) (if not p && b then [] else h ∷ (if p then [] else [])) ms ≡ (if (not p && b) || list_any (is_terminal t) ms then [] else h ∷ [])
    go true b rec = rec
    go false true rec = leaves_none (next is m) ms
    go false false rec = rec

-- ---- an IF on the stack

-- an END IF stands among the statements where nothing is open but what was before them
abbrev Closes : List Mark → List Mark → Type 0
Closes is ms = (inside : List Mark) × (e : Mark) × (behind : List Mark) × (ms ≡ inside ++ e ∷ behind) × (e.sort ≡ EndIf) × (stack is inside ≡ [])

abbrev IsArm : List Mark → Type 0
IsArm hs = (b : Mark) × (is_arm b.sort ≡ true) × (hs ≡ b ∷ [])

-- of an arm nothing is left, or one
abbrev Either : Type 0 → List Mark → Type 0
Either Closed hs = (Closed × (hs ≡ [])) ⊎ ((Closed → ⊥) × IsArm hs)

no_arm : (k : ℕ) (s : Sort) → is_arm s ≡ true → names k s ≡ false
no_arm k (Do t) arm = absurd (false≢true arm)
no_arm k _ arm = refl

no_split : (xs : List Mark) (y : Mark) (zs : List Mark) → [] ≡ xs ++ y ∷ zs → ⊥
no_split [] y zs e = cc
no_split (x ∷ xs) y zs e = cc

arm_left : (s : Sort) (m a : Mark) (is : List Mark) → m.sort ≡ s → is_arm a.sort ≡ true → Either ((s ≡ EndIf) × (is ≡ [])) (left s m is (a ∷ []))
arm_left EndIf m a [] e arm = inl ((refl, refl), ap (λ b. if b then [] else a ∷ []) arm)
arm_left ElseIf m a [] e arm = inr ((λ c. let f : ElseIf ≡ EndIf = c.0 in cc), cond_both (is_if a.sort) (m ∷ []) (a ∷ []) IsArm (λ _. (m, ap is_arm e, refl)) (λ _. (a, arm, refl)))
arm_left Else m a [] e arm = inr ((λ c. let f : Else ≡ EndIf = c.0 in cc), cond_both (is_if a.sort) (m ∷ []) (a ∷ []) IsArm (λ _. (m, ap is_arm e, refl)) (λ _. (a, arm, refl)))
arm_left ElseIf m a (i ∷ is) e arm = inr ((λ c. let f : i ∷ is ≡ [] = c.1 in cc), (a, arm, refl))
arm_left Else m a (i ∷ is) e arm = inr ((λ c. let f : i ∷ is ≡ [] = c.1 in cc), (a, arm, refl))
arm_left EndIf m a (i ∷ is) e arm = inr ((λ c. let f : i ∷ is ≡ [] = c.1 in cc), (a, arm, refl))
arm_left s m a is e arm = inr ((λ c. let f : s ≡ EndIf = c.0 in cc), (a, arm, ap (λ b. if b then [] else a ∷ []) (no_arm m.label a.sort arm)))

if_leaves : (a : Mark) (is ms : List Mark) → is_arm a.sort ≡ true → Either (Closes is ms) (leaves is (a ∷ []) ms)
if_leaves a is [] arm = inr ((λ c. no_split c.0 c.1 c.2 c.3), (a, arm, refl))
if_leaves a is (m ∷ ms) arm = go (arm_left m.sort m a is refl arm) (λ b. if_leaves b (next is m) ms)
  where
    further : ((m.sort ≡ EndIf) × (is ≡ []) → ⊥) → (Closes (next is m) ms → ⊥) → (inside : List Mark) (e : Mark) (behind : List Mark) → m ∷ ms ≡ inside ++ e ∷ behind → e.sort ≡ EndIf → stack is inside ≡ [] → ⊥
    further other open_ [] e behind p q r = other (let same : m ≡ e = cc in ap (λ (x : Mark). x.sort) same ∙ q, r)
    further other open_ (i ∷ inside) e behind p q r = open_ (let same : m ≡ i = cc in let rest : ms ≡ inside ++ e ∷ behind = cc in (inside, e, behind, rest, q, ap (λ x. stack (next is x) inside) same ∙ r))

    go : Either ((m.sort ≡ EndIf) × (is ≡ [])) (left m.sort m is (a ∷ [])) → ((b : Mark) → is_arm b.sort ≡ true → Either (Closes (next is m) ms) (leaves (next is m) (b ∷ []) ms))
        → Either (Closes is (m ∷ ms)) (leaves (next is m) (left m.sort m is (a ∷ [])) ms)
    go (inl ((ends, next_to), none)) rec = inl (([], m, ms, refl, ends, next_to), ap (λ hs. leaves (next is m) hs ms) none ∙ leaves_none (next is m) ms)
    go (inr (other, (b, is_arm_, same))) rec = subst (λ hs. Either (Closes is (m ∷ ms)) (leaves (next is m) hs ms)) (sym same) (elim (rec b is_arm_) as (λ _. Either (Closes is (m ∷ ms)) (leaves (next is m) (b ∷ []) ms)) [
      | inl y ↦ inl ((m ∷ y.0.0, y.0.1, y.0.2, ap (λ x. m ∷ x) y.0.3, y.0.4, y.0.5), y.1)
      | inr n ↦ inr ((λ c. further other n.0 c.0 c.1 c.2 c.3 c.4 c.5), n.1)
    ])

-- ---- what is ended is not on the stack

construct : (s : Sort) → begins s ≡ true → ((t : ℕ) × (s ≡ Do t)) ⊎ (s ≡ If)
construct (Do t) b = inl (t, refl)
construct If b = inr refl
construct _ b = absurd (false≢true b)

next_first : (s : Sort) (c : Mark) → next_open s c [] ≡ (if begins s then c ∷ [] else [])
next_first ElseIf c = refl
next_first _ c = refl

-- which constructs may be open
module _ (may : Mark → Bool) (no_arms : (a : Mark) → is_arm a.sort ≡ true → may a ≡ false) where
  all_first : (c : Mark) (rest : List Mark) → list_all may (stack [] (c ∷ rest)) ≡ (list_all may (stack [] rest) && list_all may (leaves [] (if begins c.sort then c ∷ [] else []) rest))
  all_first c rest = ap (λ hs. list_all may (stack hs rest)) (next_first c.sort c) ∙ ap (list_all may) (stack_over [] (if begins c.sort then c ∷ [] else []) rest) ∙ list_all-append may (stack [] rest) _

  of_ended : (xs : List Mark) → ((before rest : List Mark) (c : Mark) → xs ≡ before ++ c ∷ rest → begins c.sort ≡ true → (leaves [] (c ∷ []) rest ≡ []) ⊎ (may c ≡ true)) → list_all may (stack [] xs) ≡ true
  of_ended [] each = refl
  of_ended (c ∷ rest) each = all_first c rest ∙ and_from _ _ (of_ended rest (λ before after d e. each (c ∷ before) after d (ap (λ x. c ∷ x) e))) (go (begins c.sort) refl)
    where
      one : ((t : ℕ) × (c.sort ≡ Do t)) ⊎ (c.sort ≡ If) → (leaves [] (c ∷ []) rest ≡ []) ⊎ (may c ≡ true) → list_all may (leaves [] (c ∷ []) rest) ≡ true
      one s (inl e) = ap (list_all may) e
      one (inl (t, do_)) (inr e) = ap (list_all may) (do_leaves c [] rest t do_) ∙ cond_both (list_any (is_terminal t) rest) [] (c ∷ []) (λ hs. list_all may hs ≡ true) (λ _. refl) (λ _. ap (λ x. x && true) e)
      one (inr is_if_) (inr e) = absurd (false≢true (sym (no_arms c (ap is_arm is_if_)) ∙ e))

      go : (b : Bool) → begins c.sort ≡ b → list_all may (leaves [] (if b then c ∷ [] else []) rest) ≡ true
      go true b = one (construct c.sort b) (each [] rest c refl b)
      go false b = ap (list_all may) (leaves_none [] rest)

none_there : (xs : List Mark) → list_all (λ _. false) xs ≡ true → xs ≡ []
none_there [] e = refl
none_there (x ∷ xs) e = absurd (false≢true e)

ended_leaves : (c : Mark) (after : List Mark) → IsEnded c after → leaves [] (c ∷ []) after ≡ []
ended_leaves c after (by_label t do_ ends) = do_leaves c [] after t do_ ∙ ap (λ b. if b then [] else c ∷ []) ends
ended_leaves c after (by_end_if e inside behind is_if_ at ends each) =
    closed (if_leaves c [] after (ap is_arm is_if_)) (none_there (stack [] inside) (of_ended (λ _. false) (λ a arm. refl) inside (λ b r d p q. inl (ended_leaves d r (each b r d p q)))))
  where
    closed : Either (Closes [] after) (leaves [] (c ∷ []) after) → stack [] inside ≡ [] → leaves [] (c ∷ []) after ≡ []
    closed (inl y) empty = y.1
    closed (inr n) empty = absurd (n.0 (inside, e, behind, at, ends, empty))

-- ---- what is not on the stack is ended

abbrev EachEnded : (Mark → Bool) → List Mark → Type 0
EachEnded may xs = (before rest : List Mark) (c : Mark) → xs ≡ before ++ c ∷ rest → begins c.sort ≡ true → IsEnded c rest ⊎ (may c ≡ true)

sure : {P : Type 0} → P ⊎ (false ≡ true) → P
sure (inl p) = p
sure (inr e) = absurd (false≢true e)

module _ (may : Mark → Bool) (no_arms : (a : Mark) → is_arm a.sort ≡ true → may a ≡ false) where
  first_ended : (c : Mark) (rest : List Mark) → ((t : ℕ) × (c.sort ≡ Do t)) ⊎ (c.sort ≡ If) → list_all may (leaves [] (c ∷ []) rest) ≡ true
      → ((inside : List Mark) (e : Mark) (behind : List Mark) → rest ≡ inside ++ e ∷ behind → stack [] inside ≡ [] → EachEnded (λ _. false) inside) → IsEnded c rest ⊎ (may c ≡ true)
  first_ended c rest (inl (t, do_)) all each = go (list_any (is_terminal t) rest) refl (sym (ap (list_all may) (do_leaves c [] rest t do_)) ∙ all)
    where
      go : (b : Bool) → list_any (is_terminal t) rest ≡ b → list_all may (if b then [] else c ∷ []) ≡ true → IsEnded c rest ⊎ (may c ≡ true)
      go true any e = inl (by_label t do_ any)
      go false any e = inr (and_parts (may c) true e).0
  first_ended c rest (inr is_if_) all each = go (if_leaves c [] rest (ap is_arm is_if_))
    where
      go : Either (Closes [] rest) (leaves [] (c ∷ []) rest) → IsEnded c rest ⊎ (may c ≡ true)
      go (inl ((inside, e, behind, at, ends, empty), none)) = inl (by_end_if e inside behind is_if_ at ends (λ before r d p q. sure (each inside e behind at empty before r d p q)))
      go (inr (open_, (a, arm, same))) = absurd (false≢true (sym (ap (λ x. x && true) (no_arms a arm)) ∙ sym (ap (list_all may) same) ∙ all))

-- `xs` bounds the induction
to_ended : (xs ys zs : List Mark) → xs ≡ ys ++ zs → (may : Mark → Bool) → ((a : Mark) → is_arm a.sort ≡ true → may a ≡ false) → list_all may (stack [] ys) ≡ true → EachEnded may ys
to_ended xs [] zs from may no_arms all before rest c at b = absurd (no_split before c rest at)
to_ended [] (y ∷ ys) zs from may no_arms all before rest c at b = absurd cc
to_ended (x ∷ xs) (y ∷ ys) zs from may no_arms all [] rest c at b =
    let tail : xs ≡ rest ++ zs = cc in
    let parts = and_parts _ _ (sym (all_first may no_arms c rest) ∙ ap (λ v. list_all may (stack [] v)) (sym at) ∙ all) in
    first_ended may no_arms c rest (construct c.sort b) (sym (ap (λ v. list_all may (leaves [] (if v then c ∷ [] else []) rest)) b) ∙ parts.1)
    (λ inside e behind p empty. to_ended xs inside (e ∷ behind ++ zs) (tail ∙ ap (λ v. v ++ zs) p ∙ append_assoc inside (e ∷ behind) zs) (λ _. false) (λ a arm. refl) (ap (list_all (λ _. false)) empty))
to_ended (x ∷ xs) (y ∷ ys) zs from may no_arms all (d ∷ before) rest c at b =
    let tail : xs ≡ ys ++ zs = cc in
    let as_ : ys ≡ before ++ c ∷ rest = cc in
    to_ended xs ys zs tail may no_arms (and_parts _ _ (sym (all_first may no_arms y ys) ∙ all)).0 before rest c as_ b

-- ---- the first terminal statement

-- the first statement with the label stands where all constructs on the stack are DOs that name it
abbrev pub finds : ℕ → List Mark → List Mark → Bool
finds t is [] = false
finds t is (m ∷ ms) = if is_terminal t m then all_name t is else finds t (next is m) ms

abbrev Found : ℕ → List Mark → List Mark → Type 0
Found t is ms = (between : List Mark) × (terminal : Mark) × (behind : List Mark) × (ms ≡ between ++ terminal ∷ behind) × (is_terminal t terminal ≡ true)
    × (list_any (is_terminal t) between ≡ false) × (all_name t (stack is between) ≡ true)

found : (t : ℕ) (is ms : List Mark) → finds t is ms ≡ true → Found t is ms
found t is [] e = absurd (false≢true e)
found t is (m ∷ ms) e = go (is_terminal t m) refl e (found t (next is m) ms)
  where
    go : (b : Bool) → is_terminal t m ≡ b → (if b then all_name t is else finds t (next is m) ms) ≡ true → (finds t (next is m) ms ≡ true → Found t (next is m) ms) → Found t is (m ∷ ms)
    go true b e rec = ([], m, ms, refl, b, refl, e)
    go false b e rec = let f = rec e in (m ∷ f.0, f.1, f.2, ap (λ x. m ∷ x) f.3, f.4, or_from _ _ b f.5, f.6)

finds_first : (t : ℕ) (is between : List Mark) (terminal : Mark) (behind : List Mark) → is_terminal t terminal ≡ true → list_any (is_terminal t) between ≡ false → all_name t (stack is between) ≡ true → finds t is (between ++ terminal ∷ behind) ≡ true
finds_first t is [] terminal behind ends first all = ap (λ b. if b then all_name t is else finds t (next is terminal) behind) ends ∙ all
finds_first t is (m ∷ between) terminal behind ends first all =
    let parts = or_parts _ _ first in
    ap (λ b. if b then all_name t is else finds t (next is m) (between ++ terminal ∷ behind)) parts.0 ∙ finds_first t (next is m) between terminal behind ends parts.1 all

pub has_terminal : (t : ℕ) (ms : List Mark) → finds t [] ms ≡ true → HasTerminal t ms
has_terminal t ms e =
    let (between, terminal, behind, stands, ends, first, all) = found t [] ms e in
    record { between = between; terminal = terminal; behind = behind; stands = stands; ends = ends; first = first; alone = to_ended between between [] (sym (append-nil between)) (λ (c : Mark). names t c.sort) (λ a. no_arm t a.sort) all }

pub finds_terminal : (t : ℕ) (ms : List Mark) → HasTerminal t ms → finds t [] ms ≡ true
finds_terminal t ms h =
    ap (finds t []) h.stands ∙ finds_first t [] h.between h.terminal h.behind h.ends h.first
    (of_ended (λ (c : Mark). names t c.sort) (λ a. no_arm t a.sort) h.between (λ before rest c at b. elim (h.alone before rest c at b) as (λ _. (leaves [] (c ∷ []) rest ≡ []) ⊎ (names t c.sort ≡ true)) [ inl e ↦ inl (ended_leaves c rest e) | inr e ↦ inr e ]))
