-- Nothing is refused exactly where the pass gives nested lists.
use Rattle.std.proofs.Common.{◌≡◌, ℕ, Bool, true, false, not, ◌&&◌, ◌||◌, List, [], ◌∷◌, ◌++◌, map, Option, Some, None, refl, sym, ap, ◌∙◌, subst}
use Rattle.std.specs.Prelude.{if◌then◌else◌, is_some}
use Rattle.unit77.specs.Tree.{Line}
use Rattle.order77.specs.declared.mark.Stray.{Stray}
use Rattle.unit77.specs.Laws.{NestsOrNot, OneNesting}
use Rattle.unit77.proofs.Complete.{found, one_nesting}
use Rattle.unit77.proofs.Sound.{nests}
use Rattle.unit77.specs.Tree.{Items, done, simple, loop}
use Rattle.order77.specs.declared.mark.Sort.{Sort}
use Rattle.order77.specs.declared.mark.Sort.TheVariants.{Plain, Leaving, Do, If, ElseIf, Else, EndIf}
use Rattle.order77.specs.declared.mark.Mark.{Mark}
use Rattle.unit77.specs.Nesting.{mark, sort, names, named, IsNesting}
use Rattle.unit77.specs.Running.{join, Open, State, heads, state, ended, moved, step, may_part, may_close, in_own_list, fits_sort, fits, end_of, run, start}
use Rattle.unit77.specs.Refusals.{without, next_open, next, is_wrong, naming, strays, ended_wrongly, lacking, wrong, shown, is_loop, has_if, loops, unended, at_end, all_shown}

pub no : {P : Type 0} → false ≡ true → P
no e = absurd cc

free_of : (b : Bool) → not b ≡ true → b ≡ false
free_of true e = absurd cc
free_of false e = refl

-- ---- open constructs

without_free : (k : ℕ) (hs : List Mark) → named k hs ≡ false → without k hs ≡ hs
without_free k [] free = refl
without_free k (h ∷ hs) free = go (names k h.sort) refl (without_free k hs)
  where
    go : (b : Bool) → names k h.sort ≡ b → (named k hs ≡ false → without k hs ≡ hs) → without k (h ∷ hs) ≡ h ∷ hs
    go true e rec = absurd (let f : true ≡ false = sym (ap (λ b. b || named k hs) e) ∙ free in cc)
    go false e rec = ap (λ b. if b then without k hs else h ∷ without k hs) e ∙ ap (λ x. h ∷ x) (rec (sym (ap (λ b. b || named k hs) e) ∙ free))

ended_heads : (k : ℕ) (is : Items) (os : List Open) → in_own_list k (heads os) ≡ true → heads (ended k is os).open_ ≡ without k (heads os)
ended_heads k is [] own = refl
ended_heads k is (o ∷ os) own = go (names k (sort o.head)) refl (ended_heads k (join o.before (loop o.head is done)) os)
  where
    Left : Bool → Type 0
    Left b = heads (if b then ended k (join o.before (loop o.head is done)) os else state is (o ∷ os)).open_ ≡ (if b then without k (heads os) else mark o.head ∷ without k (heads os))

    go : (b : Bool) → names k (sort o.head) ≡ b → (in_own_list k (heads os) ≡ true → heads (ended k (join o.before (loop o.head is done)) os).open_ ≡ without k (heads os)) → Left (names k (sort o.head))
    go true e rec = subst Left (sym e) (rec (sym (ap (λ b. if b then in_own_list k (heads os) else not (named k (heads os))) e) ∙ own))
    go false e rec = subst Left (sym e) (ap (λ x. mark o.head ∷ x) (sym (without_free k (heads os) (free_of _ (sym (ap (λ b. if b then in_own_list k (heads os) else not (named k (heads os))) e) ∙ own)))))

own_free : (k : ℕ) (hs : List Mark) → named k hs ≡ false → in_own_list k hs ≡ true
own_free k [] free = refl
own_free k (h ∷ hs) free = go (names k h.sort) free
  where
    go : (b : Bool) → (b || named k hs) ≡ false → (if b then in_own_list k hs else not (named k hs)) ≡ true
    go true e = absurd cc
    go false e = ap not e

pub next_heads : (l : Line) (is : Items) (os : List Open) (s : Sort) → fits_sort s l.label (heads os) ≡ true → heads (moved s l is os).open_ ≡ next_open s (mark l) (heads os)
next_heads l is os Plain fit = ended_heads l.label (join is (simple l done)) os fit
next_heads l is os Leaving fit = ended_heads l.label (join is (simple l done)) os (own_free l.label (heads os) (free_of _ fit))
next_heads l is os (Do t) fit = ap (λ x. mark l ∷ x) (sym (without_free l.label (heads os) (free_of _ fit)))
next_heads l is os If fit = ap (λ x. mark l ∷ x) (sym (without_free l.label (heads os) (free_of _ fit)))
next_heads l is [] ElseIf fit = no fit
next_heads l is (o ∷ os) ElseIf fit = ap (λ b. if b then mark l ∷ heads os else heads (o ∷ os)) (sym fit)
next_heads l is [] Else fit = no fit
next_heads l is (o ∷ os) Else fit = ap (λ b. if b then mark l ∷ heads os else heads (o ∷ os)) (sym fit)
next_heads l is [] EndIf fit = no fit
next_heads l is (o ∷ os) EndIf fit = ap (λ b. if b then heads os else heads (o ∷ os)) (sym fit)

-- ---- what is shown

abbrev pub is_nil : {A : Type 0} → List A → Bool
is_nil [] = true
is_nil (x ∷ xs) = false

pub nil_append : {A : Type 0} (xs ys : List A) → is_nil (xs ++ ys) ≡ (is_nil xs && is_nil ys)
nil_append [] ys = refl
nil_append (x ∷ xs) ys = refl

nil_map : {A B : Type 0} (f : A → B) (xs : List A) → is_nil (map f xs) ≡ is_nil xs
nil_map f [] = refl
nil_map f (x ∷ xs) = refl

and_false : (b : Bool) → (b && false) ≡ false
and_false true = refl
and_false false = refl

pub last_not_nil : {A : Type 0} (xs : List A) (x : A) → is_nil (xs ++ x ∷ []) ≡ false
last_not_nil xs x = nil_append xs (x ∷ []) ∙ and_false (is_nil xs)

nil_naming : (k : ℕ) (hs : List Mark) → is_nil (naming k hs) ≡ not (named k hs)
nil_naming k [] = refl
nil_naming k (h ∷ hs) = go (names k h.sort) (nil_naming k hs)
  where
    go : (b : Bool) → is_nil (naming k hs) ≡ not (named k hs) → is_nil (if b then naming k hs ++ h ∷ [] else naming k hs) ≡ not (b || named k hs)
    go true rec = last_not_nil (naming k hs) h
    go false rec = rec

nil_strays : (k : ℕ) (hs : List Mark) → is_nil (strays k hs) ≡ in_own_list k hs
nil_strays k [] = refl
nil_strays k (h ∷ hs) = go (names k h.sort) (nil_strays k hs)
  where
    go : (b : Bool) → is_nil (strays k hs) ≡ in_own_list k hs → is_nil (if b then strays k hs else naming k hs) ≡ (if b then in_own_list k hs else not (named k hs))
    go true rec = rec
    go false rec = nil_naming k hs

shows : (m : Mark) (hs : List Mark) (refused : Bool) (late : List Mark) → is_nil ((if refused then wrong m ∷ [] else []) ++ map lacking late) ≡ (not refused && is_nil late)
shows m hs true late = refl
shows m hs false late = nil_map lacking late

free_is_own : (k : ℕ) (hs : List Mark) → (not (named k hs) && is_nil (strays k hs)) ≡ not (named k hs)
free_is_own k hs = go (named k hs) refl
  where
    go : (b : Bool) → named k hs ≡ b → (not b && is_nil (strays k hs)) ≡ not b
    go true e = refl
    go false e = nil_strays k hs ∙ own_free k hs e

not_not : (b : Bool) → (not (not b) && true) ≡ b
not_not true = refl
not_not false = refl

shown_fits : (l : Mark) (hs : List Mark) (s : Sort) → (not (is_wrong s l.label hs) && is_nil (ended_wrongly s l.label hs)) ≡ fits_sort s l.label hs
shown_fits l hs Plain = nil_strays l.label hs
shown_fits l hs Leaving = free_is_own l.label hs
shown_fits l hs (Do t) = free_is_own l.label hs
shown_fits l hs If = free_is_own l.label hs
shown_fits l hs ElseIf = not_not (may_part hs)
shown_fits l hs Else = not_not (may_part hs)
shown_fits l hs EndIf = not_not (may_close hs)

pub nil_shown : (hs : List Mark) (l : Mark) → is_nil (shown hs l) ≡ fits hs l
nil_shown hs l = shows l hs (is_wrong l.sort l.label hs) (ended_wrongly l.sort l.label hs) ∙ shown_fits l hs l.sort

-- ---- END

end_shows : (e h : Mark) (hs : List Mark) → is_nil (at_end (h ∷ hs) e) ≡ false
end_shows e h hs = go (is_loop h.sort) (has_if hs) (names e.label h.sort) (named e.label hs)
  where
    or_end : (w : Bool) (r : Stray) → is_nil ((if w then r ∷ [] else []) ++ map lacking (loops hs ++ h ∷ [])) ≡ false
    or_end true r = refl
    or_end false r = nil_map lacking (loops hs ++ h ∷ []) ∙ last_not_nil (loops hs) h

    go : (a b n d : Bool) → is_nil ((if (not a || b) || (n || d) then wrong e ∷ [] else []) ++ map lacking (if n then unended e.label hs else (if a then loops hs ++ h ∷ [] else loops hs))) ≡ false
    go false b n d = refl
    go true true n d = refl
    go true false true d = refl
    go true false false d = or_end d (wrong e)

pub nil_end : (s : State) (e : Mark) → is_nil (at_end (heads s.open_) e) ≡ is_some (end_of s.items s.open_)
nil_end s e = go s.items s.open_
  where
    go : (is : Items) (os : List Open) → is_nil (at_end (heads os) e) ≡ is_some (end_of is os)
    go is [] = refl
    go is (o ∷ os) = end_shows e (mark o.head) (heads os)

-- ---- all

pub nil_all : (e : Mark) (s : State) (ls : List Line) → is_nil (all_shown e (heads s.open_) (map mark ls)) ≡ is_some (run s ls)
nil_all e s [] = nil_end s e
nil_all e s (l ∷ ls) = nil_append (shown (heads s.open_) (mark l)) further ∙ ap (λ b. b && is_nil further) (nil_shown (heads s.open_) (mark l)) ∙ go (fits (heads s.open_) (mark l)) refl (nil_all e (step s l) ls)
  where
    further : List Stray
    further = all_shown e (next (heads s.open_) (mark l)) (map mark ls)

    go : (b : Bool) → fits (heads s.open_) (mark l) ≡ b → is_nil (all_shown e (heads (step s l).open_) (map mark ls)) ≡ is_some (run (step s l) ls) → (b && is_nil further) ≡ is_some (if b then run (step s l) ls else None)
    go true fit rec = ap (λ hs. is_nil (all_shown e hs (map mark ls))) (sym (next_heads l s.items s.open_ (sort l) fit)) ∙ rec
    go false fit rec = refl

-- ---- the law

pub nil_is : {A : Type 0} (xs : List A) → is_nil xs ≡ true → xs ≡ []
nil_is [] e = refl
nil_is (x ∷ xs) e = no e

given : (lines : List Line) (e : Mark) (r : Option Items) → run start lines ≡ r → is_some r ≡ true → (items : Items) × IsNesting lines items
given lines e (Some items) is some = (items, nests lines items is)
given lines e None is some = no some

-- nothing is refused exactly where the lines nest
pub nests_or_not : NestsOrNot
nests_or_not lines e = (
  (λ empty. given lines e (run start lines) refl (sym (nil_all e start lines) ∙ ap is_nil empty)),
  (λ n. nil_is (all_shown e [] (map mark lines)) (nil_all e start lines ∙ ap is_some (found lines n.0 n.1))),
)

pub one : OneNesting
one lines a b m n = one_nesting lines a b m n
