-- The pass over the lines of nested lists gives the lists.
use Rattle.std.proofs.Common.{◌≡◌, ◌⊎◌, inl, inr, ℕ, Bool, true, false, not, ◌||◌, List, [], ◌∷◌, ◌++◌, Some, None, refl, sym, ap, ◌∙◌, append_assoc, append-nil}
use Rattle.std.specs.Prelude.{if◌then◌else◌}
use Rattle.std.proofs.lemmas.Bool.{eqb-true, eq-eqb}
use Rattle.unit77.specs.Tree.{Line}
use Rattle.unit77.specs.Tree.{Items, done, simple, loop, block, Arms, last, arm, first_line, flat, flat_arms}
use Rattle.order77.specs.declared.mark.Sort.{Sort}
use Rattle.order77.specs.declared.mark.Sort.TheVariants.{Plain, Leaving, Do, If, ElseIf, Else, EndIf}
use Rattle.order77.specs.declared.mark.Mark.{Mark}
use Rattle.unit77.specs.Nesting.{mark, sort, names, named, innermost, Follows, Free, Nests, NestsArms, IsNesting}
use Rattle.unit77.specs.Running.{join, Part, arms_before, Open, State, heads, state, opened, ended, moved, step, is_if, is_arm, in_own_list, fits_sort, run, start}

-- ---- lists

pub join_done : (xs : Items) → join xs done ≡ xs
join_done done = refl
join_done (simple l xs) = ap (simple l) (join_done xs)
join_done (loop l is xs) = ap (loop l is) (join_done xs)
join_done (block a e xs) = ap (block a e) (join_done xs)

pub join_assoc : (xs ys zs : Items) → join (join xs ys) zs ≡ join xs (join ys zs)
join_assoc done ys zs = refl
join_assoc (simple l xs) ys zs = ap (simple l) (join_assoc xs ys zs)
join_assoc (loop l is xs) ys zs = ap (loop l is) (join_assoc xs ys zs)
join_assoc (block a e xs) ys zs = ap (block a e) (join_assoc xs ys zs)

pub before_more : (ps : List Part) (h : Line) (is : Items) (more : Arms) → arms_before (ps ++ record { head = h; items = is } ∷ []) more ≡ arms_before ps (arm h is more)
before_more [] h is more = refl
before_more (p ∷ ps) h is more = ap (arm p.head p.items) (before_more ps h is more)

-- ---- labels

same : (k t : ℕ) (s : Sort) → names k s ≡ true → names t s ≡ true → k ≡ t
same k t (Do u) a b = sym (eqb-true u k a) ∙ eqb-true u t b
same k t Plain a b = absurd cc
same k t Leaving a b = absurd cc
same k t If a b = absurd cc
same k t ElseIf a b = absurd cc
same k t Else a b = absurd cc
same k t EndIf a b = absurd cc

same_label : (k t : ℕ) (hs : List Mark) → innermost k hs ≡ true → innermost t hs ≡ true → k ≡ t
same_label k t [] a b = absurd cc
same_label k t (h ∷ hs) a b = same k t h.sort a b

left_false : (a b : Bool) → (a || b) ≡ false → a ≡ false
left_false true b e = e
left_false false b e = refl

pub own_free : (k : ℕ) (hs : List Mark) → named k hs ≡ false → in_own_list k hs ≡ true
own_free k [] free = refl
own_free k (h ∷ hs) free = go (names k h.sort) free
  where
    go : (b : Bool) → (b || named k hs) ≡ false → (if b then in_own_list k hs else not (named k hs)) ≡ true
    go true e = absurd cc
    go false e = ap not e

pub ended_free : (k : ℕ) (is : Items) (os : List Open) → named k (heads os) ≡ false → ended k is os ≡ state is os
ended_free k is [] free = refl
ended_free k is (o ∷ os) free = ap (λ b. if b then ended k (join o.before (loop o.head is done)) os else state is (o ∷ os)) (left_false (names k (sort o.head)) _ free)

-- ---- one line

goes : (xs : Items) (os : List Open) (l : Line) (s : Sort) (ls : List Line) (next : State) → (sort l) ≡ s → fits_sort s l.label (heads os) ≡ true → moved s l xs os ≡ next → run (state xs os) (l ∷ ls) ≡ run next ls
goes xs os l s ls next is fit move =
    ap (λ b. if b then run (step (state xs os) l) ls else None) (ap (λ r. fits_sort r l.label (heads os)) is ∙ fit)
    ∙ ap (λ r. run (moved r l xs os) ls) is ∙ ap (λ r. run r ls) move

goes_free : (xs : Items) (os : List Open) (l : Line) (ls : List Line) → ((sort l) ≡ Plain) ⊎ ((sort l) ≡ Leaving) → Free (heads os) l → run (state xs os) (l ∷ ls) ≡ run (state (join xs (simple l done)) os) ls
goes_free xs os l ls (inl is) free = goes xs os l Plain ls _ is (own_free l.label (heads os) free) (ended_free l.label (join xs (simple l done)) os free)
goes_free xs os l ls (inr is) free = goes xs os l Leaving ls _ is (ap not free) (ended_free l.label (join xs (simple l done)) os free)

goes_on : (h : Sort) → (h ≡ If) ⊎ (h ≡ ElseIf) → is_if h ≡ true
goes_on h (inl e) = ap is_if e
goes_on h (inr e) = ap is_if e

parts : (h next : Line) (before : Items) (ps : List Part) (is : Items) (os : List Open) (ls : List Line) → Follows (sort h) (sort next)
    → run (state is (record { before = before; arms = ps; head = h } ∷ os)) (next ∷ ls) ≡ run (state done (record { before = before; arms = ps ++ record { head = h; items = is } ∷ []; head = next } ∷ os)) ls
parts h next before ps is os ls (f, inl e) = goes is (record { before = before; arms = ps; head = h } ∷ os) next ElseIf ls _ e (goes_on (sort h) f) refl
parts h next before ps is os ls (f, inr e) = goes is (record { before = before; arms = ps; head = h } ∷ os) next Else ls _ e (goes_on (sort h) f) refl

part_of : (h next : Sort) → Follows h next → is_arm next ≡ true
part_of h next (f, inl e) = ap is_arm e
part_of h next (f, inr e) = ap is_arm e

-- ---- lists

-- where a list leaves the pass
abbrev pub after : Bool → ℕ → Items → List Open → State
after b t is os = if b then ended t is os else state is os

-- the DO of a list names the label, and its terminal statement would stand in its own list
abbrev Within : Bool → ℕ → List Open → Type 0
Within b t os = b ≡ true → (innermost t (heads os) ≡ true) × (in_own_list t (heads os) ≡ true)

is_do : (t : ℕ) (l : Line) → (sort l) ≡ Do t → names t (sort l) ≡ true
is_do t l is = ap (names t) is ∙ eq-eqb t t refl

own_do : (t : ℕ) (l : Line) (hs : List Mark) → (sort l) ≡ Do t → in_own_list t hs ≡ true → in_own_list t (mark l ∷ hs) ≡ true
own_do t l hs is own = ap (λ b. if b then in_own_list t hs else not (named t hs)) (is_do t l is) ∙ own

-- from a DO to where its list ends
enters : (b : Bool) (t : ℕ) (l : Line) (inside more xs : Items) (os : List Open) (rest : List Line) (u : ℕ) → (sort l) ≡ Do u → Free (heads os) l → in_own_list u (heads os) ≡ true
    → run (state done (opened xs l ∷ os)) (flat inside ++ (flat more ++ rest)) ≡ run (ended u inside (opened xs l ∷ os)) (flat more ++ rest)
    → run (state xs os) (flat (loop l inside more) ++ rest) ≡ run (ended u (join xs (loop l inside done)) os) (flat more ++ rest)
enters b t l inside more xs os rest u is free own inner =
    goes xs os l (Do u) ((flat inside ++ flat more) ++ rest) (state done (opened xs l ∷ os)) is (ap not free) refl
    ∙ ap (run (state done (opened xs l ∷ os))) (append_assoc (flat inside) (flat more) rest)
    ∙ inner
    ∙ ap (λ c. run (if c then ended u (join xs (loop l inside done)) os else state inside (opened xs l ∷ os)) (flat more ++ rest)) (is_do u l is)

no_loop : (t : ℕ) (os : List Open) → Within false t os
no_loop t os e = absurd cc

own_of : {X Y : Type 0} (b : Bool) (t u : ℕ) (os : List Open) → Within b t os → ((named u (heads os) ≡ false) × X) ⊎ ((b ≡ true) × (innermost u (heads os) ≡ true) × Y) → in_own_list u (heads os) ≡ true
own_of b t u os within (inl q) = own_free u (heads os) q.0
own_of b t u os within (inr q) = ap (λ j. in_own_list j (heads os)) (same_label u t (heads os) q.1 (within q.0).0) ∙ (within q.0).1

mutual
  complete : (b : Bool) (t : ℕ) (is xs : Items) (os : List Open) (rest : List Line) → Within b t os → Nests b (heads os) is → run (state xs os) (flat is ++ rest) ≡ run (after b t (join xs is) os) rest
  complete b t done xs os rest within n = sym (ap (λ c. run (after c t (join xs done) os) rest) n ∙ ap (λ ys. run (state ys os) rest) (join_done xs))
  complete b t (simple l more) xs os rest within (inl n) =
      goes_free xs os l (flat more ++ rest) n.0.0 n.0.1
      ∙ complete b t more (join xs (simple l done)) os rest within n.1
      ∙ ap (λ ys. run (after b t ys os) rest) (join_assoc xs (simple l done) more)
  complete b t (simple l more) xs os rest within (inr n) =
      let same = same_label l.label t (heads os) n.2 (within n.0).0 in
      goes xs os l Plain (flat more ++ rest) (ended l.label (join xs (simple l done)) os) n.1 (ap (λ j. in_own_list j (heads os)) same ∙ (within n.0).1) refl
      ∙ ap (λ m. run (ended l.label (join xs (simple l done)) os) (flat m ++ rest)) n.3
      ∙ ap (λ j. run (ended j (join xs (simple l done)) os) rest) same
      ∙ ap (λ c. run (after c t (join xs (simple l done)) os) rest) (sym n.0)
      ∙ ap (λ m. run (after b t (join xs (simple l m)) os) rest) (sym n.3)
  complete b t (loop l inside more) xs os rest within (u, is, free, inner, inl q) =
      enters b t l inside more xs os rest u is free (own_free u (heads os) q.0) (complete true u inside done (opened xs l ∷ os) (flat more ++ rest) (λ _. (is_do u l is, own_do u l (heads os) is (own_free u (heads os) q.0))) inner)
      ∙ ap (λ s. run s (flat more ++ rest)) (ended_free u (join xs (loop l inside done)) os q.0)
      ∙ complete b t more (join xs (loop l inside done)) os rest within q.1
      ∙ ap (λ ys. run (after b t ys os) rest) (join_assoc xs (loop l inside done) more)
  complete b t (loop l inside more) xs os rest within (u, is, free, inner, inr q) =
      let own = own_of b t u os within (let r : ((named u (heads os) ≡ false) × ⊥) ⊎ ((b ≡ true) × (innermost u (heads os) ≡ true) × (more ≡ done)) = inr q in r) in
      enters b t l inside more xs os rest u is free own (complete true u inside done (opened xs l ∷ os) (flat more ++ rest) (λ _. (is_do u l is, own_do u l (heads os) is own)) inner)
      ∙ ap (λ m. run (ended u (join xs (loop l inside done)) os) (flat m ++ rest)) q.2
      ∙ ap (λ j. run (ended j (join xs (loop l inside done)) os) rest) (same_label u t (heads os) q.1 (within q.0).0)
      ∙ ap (λ c. run (after c t (join xs (loop l inside done)) os) rest) (sym q.0)
      ∙ ap (λ m. run (after b t (join xs (loop l inside m)) os) rest) (sym q.2)
  complete b t (block arms e more) xs os rest within n =
      goes xs os (first_line arms) If ((flat_arms arms ++ e ∷ flat more) ++ rest) (state done (opened xs (first_line arms) ∷ os)) n.0 (ap not n.1) refl
      ∙ ap (run (state done (opened xs (first_line arms) ∷ os))) (append_assoc (flat_arms arms) (e ∷ flat more) rest)
      ∙ complete_arms arms [] xs os e (flat more ++ rest) (ap is_arm n.0) n.2 n.3
      ∙ complete b t more (join xs (block arms e done)) os rest within n.4
      ∙ ap (λ ys. run (after b t ys os) rest) (join_assoc xs (block arms e done) more)

  complete_arms : (arms : Arms) (ps : List Part) (xs : Items) (os : List Open) (e : Line) (rest : List Line) → is_arm (sort (first_line arms)) ≡ true → NestsArms (heads os) arms → (sort e) ≡ EndIf
      → run (state done (record { before = xs; arms = ps; head = first_line arms } ∷ os)) (flat_arms arms ++ e ∷ rest) ≡ run (state (join xs (block (arms_before ps arms) e done)) os) rest
  complete_arms (last h is) ps xs os e rest is_part n ends =
      let o : Open = record { before = xs; arms = ps; head = h } in
      complete false 0 is done (o ∷ os) (e ∷ rest) (no_loop 0 (o ∷ os)) n
      ∙ goes is (o ∷ os) e EndIf rest _ ends is_part refl
  complete_arms (arm h is more) ps xs os e rest is_part n ends =
      let o : Open = record { before = xs; arms = ps; head = h } in
      ap (run (state done (o ∷ os))) (append_assoc (flat is) (first_line more ∷ flat_arms more) (e ∷ rest))
      ∙ complete false 0 is done (o ∷ os) (first_line more ∷ (flat_arms more ++ e ∷ rest)) (no_loop 0 (o ∷ os)) n.0
      ∙ parts h (first_line more) xs ps is os (flat_arms more ++ e ∷ rest) n.1
      ∙ complete_arms more (ps ++ record { head = h; items = is } ∷ []) xs os e rest (part_of (sort h) (sort (first_line more)) n.1) n.2 ends
      ∙ ap (λ a. run (state (join xs (block a e done)) os) rest) (before_more ps h is more)

-- the pass gives what the lines nest to
pub found : (lines : List Line) (items : Items) → IsNesting lines items → run start lines ≡ Some items
found lines items n =
    ap (run start) (sym n.0 ∙ sym (append-nil (flat items)))
    ∙ complete false 0 items done [] [] (no_loop 0 []) n.1

-- a list has at most one nesting
pub one_nesting : (lines : List Line) (a b : Items) → IsNesting lines a → IsNesting lines b → a ≡ b
one_nesting lines a b m n = inside (sym (found lines a m) ∙ found lines b n)
  where
    inside : Some a ≡ Some b → a ≡ b
    inside e = cc
