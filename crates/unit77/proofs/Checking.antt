-- What the checker keeps, step by step.
use Rattle.std.proofs.Common.{◌≡◌, ℕ, suc, ◌+◌, ◌<◌, ◌≤◌, ◌==◌, ◌||◌, ◌&&◌, nat_lt, zero, is_some, not, Bool, true, false, Option, None, Some, List, [], ◌∷◌, ◌++◌, fold, map, length, All, refl, sym, ap, ◌∙◌, append_assoc, append-nil, if◌then◌else◌, length-append, arith, MatchOption, subst}
use Rattle.std.proofs.lemmas.Bool.{lt-ltb}
use Rattle.std.proofs.lemmas.List.{length-map, same_from_push}
use Rattle.std.proofs.lemmas.List.Elements.{All-append}
use Rattle.std.proofs.lemmas.List.Sums.{fold-append}
use Rattle.std.proofs.Math.Seq.{append_snoc, set-append_seam}
use Rattle.order77.specs.declared.mark.Mark.{Mark}
use Rattle.order77.specs.declared.mark.Sort.{Sort}
use Rattle.order77.specs.declared.mark.Sort.TheVariants.{Plain, Leaving, Do, If, ElseIf, Else, EndIf}
use Rattle.order77.specs.declared.mark.Stray.{Stray}
use Rattle.unit77.specs.declared.loops.OpenLoop.{OpenLoop}
use Rattle.unit77.specs.declared.checker.Checker.{Checker}
use Rattle.unit77.specs.Nesting.{names, named}
use Rattle.unit77.specs.Running.{is_if, is_arm}
use Rattle.unit77.specs.Refusals.{without, naming, strays, lacking, wrong, is_loop}
use Rattle.unit77.specs.Checking.{with_begun, opens, loops_for, loop_at, loops_from, with_ended, IsInnermost, IsEnded, IsSound}

pub sound_later : (n m : ℕ) (c : Checker) → IsSound n c → n ≤ m → IsSound m c
sound_later n m c sound le = let short = sound.short in record { loops = sound.loops; count = sound.count; short = omega arith }

-- ---- the last of a stack

opens_last : (os : List (Option Mark)) (o : Option Mark) → opens (os ++ o ∷ []) ≡ with_begun (opens os) o
opens_last os o = fold-append with_begun [] os (o ∷ [])

loops_more : (k n : ℕ) (os : List (Option Mark)) (o : Option Mark) → loops_from k n (os ++ o ∷ []) ≡ loops_from k n os ++ loop_at k (n + length os) o
loops_more k n [] o = append-nil (loop_at k n o) ∙ ap (λ i. loop_at k i o) (omega arith)
loops_more k n (p ∷ os) o =
    ap (λ x. loop_at k n p ++ x) (loops_more k (suc n) os o ∙ ap (λ i. loops_from k (suc n) os ++ loop_at k i o) (omega arith))
    ∙ sym (append_assoc (loop_at k n p) (loops_from k (suc n) os) (loop_at k (n + length (p ∷ os)) o))

loops_last : (k : ℕ) (os : List (Option Mark)) (o : Option Mark) → loops_from k 0 (os ++ o ∷ []) ≡ loops_from k 0 os ++ loop_at k (length os) o
loops_last k os o = loops_more k 0 os o ∙ ap (λ i. loops_from k 0 os ++ loop_at k i o) (omega arith)

unnamed : (k n : ℕ) (m : Mark) → names k m.sort ≡ false → loop_at k n (Some m) ≡ []
unnamed k n m off = ap (λ b. if b then record { at = n; mark = m } ∷ [] else []) off

-- a construct that is no DO that names the label
passed : (k : ℕ) (os : List (Option Mark)) (m : Mark) → names k m.sort ≡ false → loops_from k 0 (os ++ Some m ∷ []) ≡ loops_from k 0 os
passed k os m off = loops_last k os (Some m) ∙ ap (λ x. loops_from k 0 os ++ x) (unnamed k (length os) m off) ∙ append-nil (loops_from k 0 os)

-- ---- the innermost construct

-- what is open is the same
pub record IsSame (old : List (Option Mark)) (new : List (Option Mark)) : Type 0 where
  pub open_ : opens new ≡ opens old
  pub loops : (k : ℕ) → loops_from k 0 new ≡ loops_from k 0 old
  pub short : length new ≤ length old

pub popped_ended : (first old new : List (Option Mark)) (o : Option Mark) → is_some o ≡ false → IsSame first old → old ≡ new ++ o ∷ [] → IsSame first new
popped_ended first old new None off same is = record {
  open_ = sym (opens_last new None) ∙ ap opens (sym is) ∙ same.open_;
  loops = λ k. sym (loops_last k new None ∙ append-nil (loops_from k 0 new)) ∙ ap (loops_from k 0) (sym is) ∙ same.loops k;
  short = omega (arith, same.short, ap length is, length-append new (None ∷ []));
}
popped_ended first old new (Some m) off same is = absurd (cc)

pub popped_open : (first old new : List (Option Mark)) (o : Option Mark) → is_some o ≡ true → IsSame first old → old ≡ new ++ o ∷ [] → IsInnermost first o new
popped_open first old new None on same is = absurd (cc)
popped_open first old new (Some m) on same is = record {
  open_ = sym same.open_ ∙ ap opens is ∙ opens_last new (Some m);
  loops = λ k. sym (same.loops k) ∙ ap (loops_from k 0) is ∙ loops_last k new (Some m);
  short = omega (arith, same.short, ap length is, length-append new (Some m ∷ []));
  last = tt;
}

-- it is put back
pub same_back : (old new back : List (Option Mark)) (m : Mark) → IsInnermost old (Some m) new → back ≡ new ++ Some m ∷ [] → IsSame old back
same_back old new back m top is = record {
  open_ = ap opens is ∙ opens_last new (Some m) ∙ sym top.open_;
  loops = λ k. ap (loops_from k 0) is ∙ loops_last k new (Some m) ∙ sym (top.loops k);
  short = omega (arith, top.short, ap length is, length-append new (Some m ∷ []));
}

other_label : (j k : ℕ) (s : Sort) → names k s ≡ true → (j == k) ≡ false → names j s ≡ false
other_label j k Plain is apart = cc
other_label j k Leaving is apart = cc
other_label j k (Do t) is apart = grind arith
other_label j k If is apart = cc
other_label j k ElseIf is apart = cc
other_label j k Else is apart = cc
other_label j k EndIf is apart = cc

pub inner_ended : (k : ℕ) (first old new : List (Option Mark)) (m : Mark) → IsInnermost old (Some m) new → names k m.sort ≡ true → IsEnded k first old → IsEnded k first new
inner_ended k first old new m top is before = record {
  kept = ap (λ b. if b then without k (opens new) else m ∷ without k (opens new)) (sym is) ∙ ap (without k) (sym top.open_) ∙ before.kept;
  strays = ap (λ b. if b then strays k (opens new) else naming k (opens new)) (sym is) ∙ ap (strays k) (sym top.open_) ∙ before.strays;
  others = λ j apart. sym (top.loops j ∙ ap (λ x. loops_from j 0 new ++ x) (unnamed j (length new) m (other_label j k m.sort is apart)) ∙ append-nil (loops_from j 0 new)) ∙ before.others j apart;
  short = omega (arith, top.short, before.short);
}

pub inner_loops : (k : ℕ) (old new : List (Option Mark)) (m : Mark) (before after : List OpenLoop) (r : Option OpenLoop)
    → IsInnermost old (Some m) new → names k m.sort ≡ true → before ≡ loops_from k 0 old → MatchOption r ((before ≡ []) × (after ≡ [])) (λ p. before ≡ after ++ p ∷ []) → after ≡ loops_from k 0 new
inner_loops k old new m before after r top is at = by r
  where
    grown : before ≡ loops_from k 0 new ++ record { at = length new; mark = m } ∷ []
    grown = at ∙ top.loops k ∙ ap (λ b. loops_from k 0 new ++ (if b then record { at = length new; mark = m } ∷ [] else [])) is

    by : (r : Option OpenLoop) → MatchOption r ((before ≡ []) × (after ≡ [])) (λ p. before ≡ after ++ p ∷ []) → after ≡ loops_from k 0 new
    by None h = absurd (omega (arith, ap length h.0, ap length grown, length-append (loops_from k 0 new) (record { at = length new; mark = m } ∷ [])))
    by (Some p) h = (same_from_push after (loops_from k 0 new) p (record { at = length new; mark = m }) (sym h ∙ grown)).0

pub same_ended : (k : ℕ) (first old new : List (Option Mark)) → IsSame old new → IsEnded k first old → IsEnded k first new
same_ended k first old new same before = record {
  kept = ap (without k) same.open_ ∙ before.kept;
  strays = ap (strays k) same.open_ ∙ before.strays;
  others = λ j apart. same.loops j ∙ before.others j apart;
  short = omega (arith, same.short, before.short);
}

-- ---- DOs that are ended where another construct is open inside

abbrev pub shut : ℕ → Option Mark → Option Mark
shut k None = None
shut k (Some m) = if names k m.sort then None else Some m

set_over : (k : ℕ) (pre : List (Option Mark)) (o : Option Mark) (os : List (Option Mark))
    → fold with_ended ((pre ++ o ∷ []) ++ os) (loops_from k (length (pre ++ o ∷ [])) os) ≡ (pre ++ o ∷ []) ++ map (shut k) os
    → fold with_ended (pre ++ o ∷ os) (loops_from k (suc (length pre)) os) ≡ pre ++ o ∷ map (shut k) os
set_over k pre o os rest =
    sym (ap (λ l. fold with_ended l (loops_from k (suc (length pre)) os)) (append_snoc pre o os))
    ∙ ap (λ n. fold with_ended ((pre ++ o ∷ []) ++ os) (loops_from k n os)) (omega (arith, length-append pre (o ∷ [])))
    ∙ rest ∙ append_snoc pre o (map (shut k) os)

set_at : (k : ℕ) (pre : List (Option Mark)) (m : Mark) (os : List (Option Mark)) (b : Bool) → names k m.sort ≡ b
    → ((o : Option Mark) → fold with_ended (pre ++ o ∷ os) (loops_from k (suc (length pre)) os) ≡ pre ++ o ∷ map (shut k) os)
    → fold with_ended (pre ++ Some m ∷ os) ((if b then record { at = length pre; mark = m } ∷ [] else []) ++ loops_from k (suc (length pre)) os)
    ≡ pre ++ (if b then None else Some m) ∷ map (shut k) os
set_at k pre m os true is rest = ap (λ l. fold with_ended l (loops_from k (suc (length pre)) os)) (set-append_seam pre (Some m) os None) ∙ rest None
set_at k pre m os false is rest = rest (Some m)

all_shut : (k : ℕ) (pre os : List (Option Mark)) → fold with_ended (pre ++ os) (loops_from k (length pre) os) ≡ pre ++ map (shut k) os
all_shut k pre [] = refl
all_shut k pre (None ∷ os) = set_over k pre None os (all_shut k (pre ++ None ∷ []) os)
all_shut k pre (Some m ∷ os) = set_at k pre m os (names k m.sort) refl (λ o. set_over k pre o os (all_shut k (pre ++ o ∷ []) os))

opens_shut : (k : ℕ) (os : List (Option Mark)) (hs : List Mark) → fold with_begun (without k hs) (map (shut k) os) ≡ without k (fold with_begun hs os)
opens_shut k [] hs = refl
opens_shut k (None ∷ os) hs = opens_shut k os hs
opens_shut k (Some m ∷ os) hs =
    let one : with_begun (without k hs) (shut k (Some m)) ≡ without k (m ∷ hs) = elim (names k m.sort) as (λ b. with_begun (without k hs) (if b then None else Some m) ≡ (if b then without k hs else m ∷ without k hs)) [ true ↦ refl | false ↦ refl ] in
    ap (λ x. fold with_begun x (map (shut k) os)) one ∙ opens_shut k os (m ∷ hs)

shut_at : (j k n : ℕ) (o : Option Mark) → (j == k) ≡ false → loop_at j n (shut k o) ≡ loop_at j n o
shut_at j k n None apart = refl
shut_at j k n (Some m) apart = by (names k m.sort) refl
  where
    by : (b : Bool) → names k m.sort ≡ b → loop_at j n (if b then None else Some m) ≡ loop_at j n (Some m)
    by true is = sym (unnamed j n m (other_label j k m.sort is apart))
    by false is = refl

none_at : (k n : ℕ) (o : Option Mark) → loop_at k n (shut k o) ≡ []
none_at k n None = refl
none_at k n (Some m) = by (names k m.sort) refl
  where
    by : (b : Bool) → names k m.sort ≡ b → loop_at k n (if b then None else Some m) ≡ []
    by true is = refl
    by false is = unnamed k n m is

loops_shut : (j k n : ℕ) (os : List (Option Mark)) (b : Bool) → (j == k) ≡ b → loops_from j n (map (shut k) os) ≡ (if b then [] else loops_from j n os)
loops_shut j k n [] true is = refl
loops_shut j k n [] false is = refl
loops_shut j k n (o ∷ os) true is = let same : j ≡ k = grind arith in ap (λ x. x ++ loops_from j (suc n) (map (shut k) os)) (ap (λ i. loop_at j n (shut i o)) (sym same) ∙ none_at j n o) ∙ loops_shut j k (suc n) os true is
loops_shut j k n (o ∷ os) false is = ap (λ x. x ++ loops_from j (suc n) (map (shut k) os)) (shut_at j k n o is) ∙ ap (λ x. loop_at j n o ++ x) (loops_shut j k (suc n) os false is)

-- ---- what the places of the DOs show

naming_from : (k n : ℕ) (os : List (Option Mark)) (hs : List Mark) → naming k (fold with_begun hs os) ≡ naming k hs ++ map (λ (p : OpenLoop). p.mark) (loops_from k n os)
naming_from k n [] hs = sym (append-nil (naming k hs))
naming_from k n (None ∷ os) hs = naming_from k (suc n) os hs
naming_from k n (Some m ∷ os) hs =
    let xs = map (λ (p : OpenLoop). p.mark) (loops_from k (suc n) os) in
    naming_from k (suc n) os (m ∷ hs)
    ∙ elim (names k m.sort) as (λ b. (if b then naming k hs ++ m ∷ [] else naming k hs) ++ xs ≡ naming k hs ++ map (λ (p : OpenLoop). p.mark) ((if b then record { at = n; mark = m } ∷ [] else []) ++ loops_from k (suc n) os))
    [ true ↦ append_snoc (naming k hs) m xs | false ↦ refl ]

map_lacking : (ps : List OpenLoop) → map (λ (p : OpenLoop). lacking p.mark) ps ≡ map lacking (map (λ (p : OpenLoop). p.mark) ps)
map_lacking [] = refl
map_lacking (p ∷ ps) = ap (λ x. lacking p.mark ∷ x) (map_lacking ps)

count_without : (k : ℕ) (hs : List Mark) → length (without k hs) + length (naming k hs) ≡ length hs
count_without k [] = refl
count_without k (h ∷ hs) = elim (names k h.sort) as (λ b. length (if b then without k hs else h ∷ without k hs) + length (if b then naming k hs ++ h ∷ [] else naming k hs) ≡ suc (length hs))
    [ true ↦ omega (arith, length-append (naming k hs) (h ∷ []), count_without k hs) | false ↦ omega (arith, count_without k hs) ]

named_is : (k : ℕ) (hs : List Mark) → named k hs ≡ nat_lt 0 (length (naming k hs))
named_is k [] = refl
named_is k (h ∷ hs) =
    elim (names k h.sort) as (λ b. (b || named k hs) ≡ nat_lt 0 (length (if b then naming k hs ++ h ∷ [] else naming k hs)))
    [ true ↦ sym (lt-ltb 0 (length (naming k hs ++ h ∷ [])) (omega (arith, length-append (naming k hs) (h ∷ [])))) | false ↦ named_is k hs ]

one : {A : Type 0} (P : A → Type 0) (x : A) → P x → All P (x ∷ [])
one P x at zero d lt = at
one P x at (suc i) d lt = absurd (omega arith)

here : (k n l : ℕ) (o : Option Mark) → All (λ (p : OpenLoop). p.at < n + suc l) (loop_at k n o)
here k n l None = λ i d lt. absurd (omega arith)
here k n l (Some m) = elim (names k m.sort) as (λ b. All (λ (p : OpenLoop). p.at < n + suc l) (if b then record { at = n; mark = m } ∷ [] else []))
    [ true ↦ one (λ (p : OpenLoop). p.at < n + suc l) (record { at = n; mark = m }) (omega arith) | false ↦ λ i d lt. absurd (omega arith) ]

loops_within : (k n : ℕ) (os : List (Option Mark)) → All (λ (p : OpenLoop). p.at < n + length os) (loops_from k n os)
loops_within k n [] = λ i d lt. absurd (omega arith)
loops_within k n (o ∷ os) =
    All-append (λ (p : OpenLoop). p.at < n + suc (length os)) (loop_at k n o) (loops_from k (suc n) os) (here k n (length os) o)
    (λ i d lt. let rest = loops_within k (suc n) os i d lt in omega arith)

-- ---- what the checker keeps

-- what is open is the same
pub same_sound : (n : ℕ) (c d : Checker) → IsSame c.stack d.stack → d.loops ≡ c.loops → d.count ≡ c.count → IsSound n c → IsSound n d
same_sound n c d same loops count sound = record {
  loops = λ k. ap (λ l. loops_for l k) loops ∙ sound.loops k ∙ sym (same.loops k);
  count = count ∙ sound.count ∙ ap length (sym same.open_);
  short = omega (arith, same.short, sound.short);
}

no_loop : (k : ℕ) (s : Sort) → is_loop s ≡ false → names k s ≡ false
no_loop k Plain is = refl
no_loop k Leaving is = refl
no_loop k (Do t) is = absurd (cc)
no_loop k If is = refl
no_loop k ElseIf is = refl
no_loop k Else is = refl
no_loop k EndIf is = refl

arm_names : (k : ℕ) (s : Sort) → is_arm s ≡ true → names k s ≡ false
arm_names k Plain is = refl
arm_names k Leaving is = refl
arm_names k (Do t) is = absurd (cc)
arm_names k If is = refl
arm_names k ElseIf is = refl
arm_names k Else is = refl
arm_names k EndIf is = refl

pub if_arm : (s : Sort) → is_if s ≡ true → is_arm s ≡ true
if_arm If is = refl
if_arm ElseIf is = refl
if_arm Plain is = is
if_arm Leaving is = is
if_arm (Do t) is = is
if_arm Else is = refl
if_arm EndIf is = is

arm_off : (k : ℕ) (old new : List (Option Mark)) (h : Mark) → IsInnermost old (Some h) new → is_arm h.sort ≡ true → loops_from k 0 old ≡ loops_from k 0 new
arm_off k old new h top is = top.loops k ∙ ap (λ x. loops_from k 0 new ++ x) (unnamed k (length new) h (arm_names k h.sort is)) ∙ append-nil (loops_from k 0 new)

-- the next arm begins
pub parted_sound : (n : ℕ) (c d : Checker) (h m : Mark) (new : List (Option Mark)) → IsInnermost c.stack (Some h) new → is_arm h.sort ≡ true → is_loop m.sort ≡ false
    → d.stack ≡ new ++ Some m ∷ [] → d.loops ≡ c.loops → d.count ≡ c.count → IsSound n c → IsSound n d
parted_sound n c d h m new top is arm stack loops count sound = record {
  loops = λ k. ap (λ l. loops_for l k) loops ∙ sound.loops k ∙ arm_off k c.stack new h top is ∙ sym (ap (loops_from k 0) stack ∙ passed k new m (no_loop k m.sort arm));
  count = count ∙ sound.count ∙ ap length top.open_ ∙ sym (ap length (ap opens stack ∙ opens_last new (Some m)));
  short = omega (arith, top.short, sound.short, ap length stack, length-append new (Some m ∷ []));
}

opens_short : (os : List (Option Mark)) (hs : List Mark) → length (fold with_begun hs os) ≤ length hs + length os
opens_short [] hs = omega arith
opens_short (None ∷ os) hs = omega (arith, opens_short os hs)
opens_short (Some m ∷ os) hs = omega (arith, opens_short os (m ∷ hs))

-- so many are open at most
pub count_short : (n : ℕ) (c : Checker) → IsSound n c → c.count ≤ n
count_short n c sound = omega (arith, sound.count, sound.short, opens_short c.stack [])

-- a construct begins
pub begun_sound : (n : ℕ) (c d : Checker) (m : Mark) → IsSound n c → d.stack ≡ c.stack ++ Some m ∷ [] → d.count ≡ c.count + 1
    → ((k : ℕ) → loops_for d.loops k ≡ loops_for c.loops k ++ loop_at k (length c.stack) (Some m)) → IsSound (suc n) d
begun_sound n c d m sound stack count loops = record {
  loops = λ k. loops k ∙ ap (λ x. x ++ loop_at k (length c.stack) (Some m)) (sound.loops k) ∙ sym (ap (loops_from k 0) stack ∙ loops_last k c.stack (Some m));
  count = omega (arith, count, sound.count, ap length (ap opens stack ∙ opens_last c.stack (Some m)));
  short = omega (arith, sound.short, ap length stack, length-append c.stack (Some m ∷ []));
}

-- the DOs that name a label end
shut_all : (k : ℕ) (os new : List (Option Mark)) (ps : List OpenLoop) → ps ≡ loops_from k 0 os → new ≡ fold with_ended os ps → new ≡ map (shut k) os
shut_all k os new ps at is = is ∙ ap (fold with_ended os) at ∙ all_shut k [] os

pub named_within : (k : ℕ) (os : List (Option Mark)) (ps : List OpenLoop) → ps ≡ loops_from k 0 os → All (λ (p : OpenLoop). p.at < length os) ps
named_within k os ps at = subst (λ l. All (λ (p : OpenLoop). p.at < length os) l) (sym at) (λ i d lt. let h = loops_within k 0 os i d lt in omega arith)

pub shut_open : (k : ℕ) (first os new : List (Option Mark)) (ps : List OpenLoop) → IsEnded k first os → ps ≡ loops_from k 0 os → new ≡ fold with_ended os ps → opens new ≡ without k (opens first)
shut_open k first os new ps ended at is = ap opens (shut_all k os new ps at is) ∙ opens_shut k os [] ∙ ended.kept

loops_shown : (k : ℕ) (os : List (Option Mark)) → naming k (opens os) ≡ map (λ (p : OpenLoop). p.mark) (loops_from k 0 os)
loops_shown k os = naming_from k 0 os []

pub shut_strays : (k : ℕ) (first os : List (Option Mark)) (ps : List OpenLoop) → IsEnded k first os → strays k (opens os) ≡ naming k (opens os) → ps ≡ loops_from k 0 os
    → map (λ (p : OpenLoop). lacking p.mark) ps ≡ map lacking (strays k (opens first))
shut_strays k first os ps ended bare at = map_lacking ps ∙ ap (λ l. map lacking (map (λ (p : OpenLoop). p.mark) l)) at ∙ ap (map lacking) (sym (loops_shown k os) ∙ sym bare ∙ ended.strays)

loops_count : (k : ℕ) (os : List (Option Mark)) → length (loops_from k 0 os) ≡ length (naming k (opens os))
loops_count k os = sym (ap length (loops_shown k os) ∙ length-map (loops_from k 0 os) (λ (p : OpenLoop). p.mark))

pub named_count : (n k : ℕ) (c : Checker) (ps : List OpenLoop) → IsSound n c → ps ≡ loops_for c.loops k → length ps + length (without k (opens c.stack)) ≡ c.count
named_count n k c ps sound is = omega (arith, ap length (is ∙ sound.loops k), loops_count k c.stack, count_without k (opens c.stack), sound.count)

pub is_named : (n k : ℕ) (c : Checker) (ps : List OpenLoop) → IsSound n c → ps ≡ loops_for c.loops k → nat_lt 0 (length ps) ≡ named k (opens c.stack)
is_named n k c ps sound is = ap (nat_lt 0) (ap length (is ∙ sound.loops k) ∙ loops_count k c.stack) ∙ sym (named_is k (opens c.stack))

pub shut_sound : (n k : ℕ) (c d : Checker) (os : List (Option Mark)) (ps : List OpenLoop) → IsSound n c → IsEnded k c.stack os → ps ≡ loops_from k 0 os → d.stack ≡ fold with_ended os ps
    → ((j : ℕ) → loops_for d.loops j ≡ (if j == k then [] else loops_for c.loops j)) → d.count ≡ length (without k (opens c.stack)) → IsSound n d
shut_sound n k c d os ps sound ended at stack loops count = record {
  loops = λ j. loops j ∙ by j (j == k) refl ∙ sym (ap (loops_from j 0) (shut_all k os d.stack ps at stack));
  count = count ∙ ap length (sym (shut_open k c.stack os d.stack ps ended at stack));
  short = omega (arith, sound.short, ended.short, ap length (shut_all k os d.stack ps at stack), length-map os (shut k));
}
  where
    by : (j : ℕ) (b : Bool) → (j == k) ≡ b → (if b then [] else loops_for c.loops j) ≡ loops_from j 0 (map (shut k) os)
    by j true is = sym (loops_shut j k 0 os true is)
    by j false is = sound.loops j ∙ sym (ended.others j is) ∙ sym (loops_shut j k 0 os false is)

pub may_not : (a n e : Bool) → e ≡ false → a ≡ n → a ≡ (not e && n)
may_not a n e is at = at ∙ ap (λ x. not x && n) (sym is)

pub may : (a n e : Bool) → e ≡ true → a ≡ not e → a ≡ (not e && n)
may a n e is at = at ∙ ap not is ∙ ap (λ x. not x && n) (sym is)

pub shut_shown : (old mid new : List Stray) (a b : Bool) (m : Mark) (xs ys : List Stray)
    → mid ≡ old ++ (if a then wrong m ∷ [] else []) → new ≡ mid ++ xs → a ≡ b → xs ≡ ys → new ≡ old ++ ((if b then wrong m ∷ [] else []) ++ ys)
shut_shown old mid new a b m xs ys one two same rest =
    two ∙ ap (λ x. x ++ xs) one ∙ append_assoc old (if a then wrong m ∷ [] else []) xs ∙ (λ i. old ++ ((if same i then wrong m ∷ [] else []) ++ rest i))
