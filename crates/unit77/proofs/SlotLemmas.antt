-- The lowest fault of each statement, and its refusal by it.
use Rattle.std.proofs.Common.{◌≡◌, ◌≢◌, ℕ, ◌+◌, ◌<◌, ◌≤◌, arith, Bool, true, false, ◌||◌, List, [], ◌∷◌, ◌++◌, map, length, take, drop, get_or, Option, Some, None, if◌then◌else◌, nat_lt, refl, sym, ap, subst, ◌∙◌, append_assoc, append-nil, get_or-set_other, get_or-set_same}
use Rattle.std.specs.Prelude.{◌==◌, fold, filter, flat_map}
use Rattle.std.specs.List.{list_any}
use Rattle.std.specs.Option.{option_map}
use Rattle.std.proofs.Math.Bool.{or-true}
use Rattle.std.proofs.Math.ListN.{set, length-set}
use Rattle.std.proofs.Math.Seq.{take-append_seam}
use Rattle.std.proofs.lemmas.Bool.{eqb-true}
use Rattle.std.proofs.lemmas.Grind.{common_steps}
use Rattle.std.proofs.lemmas.List.{map-append, take_more}
use Rattle.std.proofs.lemmas.List.Elements.{filter-append}
use Rattle.std.proofs.lemmas.List.Sums.{fold-append}
use Rattle.std.proofs.lemmas.Option.{slice_get-get_or, get_or_from_slice_get}
use Rattle.text_base.specs.Causes.{cause_number}
use Rattle.text_base.specs.declared.refusal.Refusal.{Refusal}
use Rattle.order77.specs.declared.mark.Fault.{Fault}
use Rattle.order77.specs.declared.mark.Stray.{Stray}
use Rattle.order77.specs.declared.read.ReadStatement.{ReadStatement}
use Rattle.order77.specs.Counts.{Reading}
use Rattle.order77.specs.Naming.{last_name}
use Rattle.unit77.specs.FileRefusals.{fault_refusal, faults_of, first_lowest, is_lower, refusals_at}
use Rattle.order77.specs.Names.{as_list}
use Rattle.order77.specs.ReadViews.{reading_at, readings_from, readings_of}
use Rattle.unit77.specs.Slots.{AreLowest, keep_fault, keep_refusal, lowest_of, rank, refusal_with}
use Rattle.unit77.specs.Units.{file_strays}
use Rattle.order77.proofs.Readings.{readings_more, readings_done}

-- ---- the first of the lowest refusals is the one that is kept

lower_than : (p q k : Refusal) → is_lower q k ≡ true → is_lower p k ≡ false → is_lower q p ≡ true
lower_than p q k e f = lower_numbers (cause_number p.cause) (cause_number q.cause) (cause_number k.cause) e f
  where
    lower_numbers : (a b c : ℕ) → nat_lt b c ≡ true → nat_lt a c ≡ false → nat_lt b a ≡ true
    lower_numbers a b c e f = grind (arith, common_steps)

any_lower : (p k : Refusal) (ps : List Refusal) → is_lower p k ≡ false → list_any (λ q. is_lower q k) ps ≡ true → list_any (λ q. is_lower q p) ps ≡ true
any_lower p k [] f e = absurd cc
any_lower p k (q ∷ ps) f e = go (any_lower p k ps f) (is_lower q k) refl
  where
    go : (list_any (λ q. is_lower q k) ps ≡ true → list_any (λ q. is_lower q p) ps ≡ true) → (b : Bool) → is_lower q k ≡ b → list_any (λ q. is_lower q p) (q ∷ ps) ≡ true
    go more true is = ap (λ b. b || list_any (λ q. is_lower q p) ps) (lower_than p q k is f)
    go more false is = ap (λ b. is_lower q p || b) (more (ap (λ b. b || list_any (λ q. is_lower q k) ps) (sym is) ∙ e)) ∙ or-true (is_lower q p)

-- a refusal that is kept stays, unless a lower one follows
keeps : (k : Refusal) (ps : List Refusal) → fold keep_refusal (Some k) ps ≡ (if list_any (λ q. is_lower q k) ps then first_lowest ps else Some k)
keeps k [] = refl
keeps k (p ∷ ps) = go (keeps p ps) (keeps k ps) (is_lower p k) refl (list_any (λ q. is_lower q k) ps) refl
  where
    go : fold keep_refusal (Some p) ps ≡ first_lowest (p ∷ ps) → fold keep_refusal (Some k) ps ≡ (if list_any (λ q. is_lower q k) ps then first_lowest ps else Some k)
        → (b : Bool) → is_lower p k ≡ b → (any : Bool) → list_any (λ q. is_lower q k) ps ≡ any
        → fold keep_refusal (if b then Some p else Some k) ps ≡ (if b || list_any (λ q. is_lower q k) ps then first_lowest (p ∷ ps) else Some k)
    go by_p by_k true is any e = by_p
    go by_p by_k false is true e =
        by_k ∙ ap (λ b. if b then first_lowest ps else Some k) e ∙ sym (ap (λ b. if b then first_lowest ps else Some p) (any_lower p k ps is e)) ∙ sym (ap (λ b. if b then first_lowest (p ∷ ps) else Some k) e)
    go by_p by_k false is false e = by_k ∙ ap (λ b. if b then first_lowest ps else Some k) e ∙ sym (ap (λ b. if b then first_lowest (p ∷ ps) else Some k) e)

keeps_lowest : (ps : List Refusal) → fold keep_refusal None ps ≡ first_lowest ps
keeps_lowest [] = refl
keeps_lowest (p ∷ ps) = keeps p ps

-- ---- faults and refusals are kept alike

keeps_fault : (unit : List ℕ) (r : Reading) (k : Option Fault) (g : Fault) → keep_refusal (option_map (fault_refusal unit r) k) (fault_refusal unit r g) ≡ option_map (fault_refusal unit r) (keep_fault k g)
keeps_fault unit r None g = refl
keeps_fault unit r (Some f) g = go (nat_lt (rank g) (rank f))
  where
    go : (b : Bool) → (if b then Some (fault_refusal unit r g) else Some (fault_refusal unit r f)) ≡ option_map (fault_refusal unit r) (if b then Some g else Some f)
    go true = refl
    go false = refl

keeps_faults : (unit : List ℕ) (r : Reading) (k : Option Fault) (fs : List Fault) → fold keep_refusal (option_map (fault_refusal unit r) k) (map (fault_refusal unit r) fs) ≡ option_map (fault_refusal unit r) (fold keep_fault k fs)
keeps_faults unit r k [] = refl
keeps_faults unit r k (g ∷ fs) = ap (λ p. fold keep_refusal p (map (fault_refusal unit r) fs)) (keeps_fault unit r k g) ∙ keeps_faults unit r (keep_fault k g) fs

-- the refusal by the lowest fault
pub refusal_lowest : (unit : List ℕ) (r : Reading) (fs : List Fault) → refusal_with unit (lowest_of fs) r ≡ first_lowest (refusals_at unit fs r)
refusal_lowest unit r fs =
    ap (λ p. fold keep_refusal p (as_list r.refusal)) (sym (keeps_faults unit r None fs)) ∙ sym (fold-append keep_refusal None (map (fault_refusal unit r) fs) (as_list r.refusal))
    ∙ keeps_lowest (refusals_at unit fs r)

-- ---- one more fault

faults_more : (n : ℕ) (strays : List Stray) (s : Stray) → faults_of n (strays ++ s ∷ []) ≡ faults_of n strays ++ (if s.number == n then s.fault ∷ [] else [])
faults_more n strays s =
    ap (map (λ (s : Stray). s.fault)) (filter-append (λ (s : Stray). s.number == n) strays (s ∷ [])) ∙ map-append (λ (s : Stray). s.fault) (filter (λ (s : Stray). s.number == n) strays) (filter (λ (s : Stray). s.number == n) (s ∷ []))
    ∙ ap (λ fs. faults_of n strays ++ fs) (go (s.number == n))
  where
    go : (b : Bool) → map (λ (s : Stray). s.fault) (if b then s ∷ [] else []) ≡ (if b then s.fault ∷ [] else [])
    go true = refl
    go false = refl

lowest_more : (n : ℕ) (strays : List Stray) (s : Stray) (b : Bool) → (s.number == n) ≡ b
    → lowest_of (faults_of n (strays ++ s ∷ [])) ≡ (if b then keep_fault (lowest_of (faults_of n strays)) s.fault else lowest_of (faults_of n strays))
lowest_more n strays s b is =
    ap lowest_of (faults_more n strays s ∙ ap (λ b. faults_of n strays ++ (if b then s.fault ∷ [] else [])) is) ∙ go b
  where
    go : (b : Bool) → lowest_of (faults_of n strays ++ (if b then s.fault ∷ [] else [])) ≡ (if b then keep_fault (lowest_of (faults_of n strays)) s.fault else lowest_of (faults_of n strays))
    go true = fold-append keep_fault None (faults_of n strays) (s.fault ∷ [])
    go false = ap lowest_of (append-nil (faults_of n strays))

-- a fault of no slot
pub slot_past : (slots : List (Option Fault)) (count : ℕ) (strays : List Stray) (s : Stray) → length slots ≤ s.number → AreLowest slots count strays → AreLowest slots count (strays ++ s ∷ [])
slot_past slots count strays s past lows = record {
  counted = lows.counted;
  lowest = λ n lt. lows.lowest n lt ∙ ap Some (sym (lowest_more n strays s false (other n lt)));
}
  where
    other : (n : ℕ) → n < count → (s.number == n) ≡ false
    other n lt = go (s.number == n) refl
      where
        go : (b : Bool) → (s.number == n) ≡ b → b ≡ false
        go true is = absurd (omega (arith, eqb-true s.number n is, lows.counted))
        go false is = refl

-- a fault of a slot
pub slot_kept : (slots : List (Option Fault)) (count : ℕ) (strays : List Stray) (s : Stray) (new : Option Fault) → s.number < length slots → new ≡ keep_fault (get_or slots s.number None) s.fault
    → AreLowest slots count strays → AreLowest (set slots s.number new) count (strays ++ s ∷ [])
slot_kept slots count strays s new within is lows = record {
  counted = length-set slots s.number new ∙ lows.counted;
  lowest = λ n lt. let in_ : n < length (set slots s.number new) = omega (arith, length-set slots s.number new, lows.counted) in
      slice_get-get_or (set slots s.number new) n None in_ ∙ ap Some (here n lt (s.number == n) refl);
}
  where
    held : (n : ℕ) → n < count → get_or slots n None ≡ lowest_of (faults_of n strays)
    held n lt = get_or_from_slice_get slots n (lowest_of (faults_of n strays)) None (lows.lowest n lt)

    here : (n : ℕ) → n < count → (b : Bool) → (s.number == n) ≡ b → get_or (set slots s.number new) n None ≡ lowest_of (faults_of n (strays ++ s ∷ []))
    here n lt true e =
        let same : n ≡ s.number = sym (eqb-true s.number n e) in
        ap (λ k. get_or (set slots s.number new) k None) same ∙ get_or-set_same slots s.number new None within ∙ is
        ∙ ap (λ f. keep_fault f s.fault) (ap (λ k. get_or slots k None) (sym same) ∙ held n lt) ∙ sym (lowest_more n strays s true e)
    here n lt false e =
        let apart : n ≢ s.number = (λ same. grind (arith, common_steps)) in
        get_or-set_other slots s.number n new None apart ∙ held n lt ∙ sym (lowest_more n strays s false e)

-- the slots are written back, with one more fault
pub slots_written : (n count : ℕ) (old new : List (Option Fault)) (strays : List Stray) (i : ℕ) (d : Stray) → i < length strays → n ≡ length old → length old ≡ count
    → AreLowest new count (take i strays ++ get_or strays i d ∷ []) → AreLowest (take n (new ++ drop (length new) old)) count (take (i + 1) strays)
slots_written n count old new strays i d lt held counted lows =
    let all : n ≡ length new = held ∙ counted ∙ sym lows.counted in
    let back = ap (λ k. take k (new ++ drop (length new) old)) all ∙ take-append_seam new (drop (length new) old) in
    subst (λ l. AreLowest l count (take (i + 1) strays)) (sym back) (subst (λ l. AreLowest new count l) (sym (take_more strays i d lt)) lows)

-- ---- all

abbrev pub refused : List ReadStatement → Reading → List Refusal
refused rs r = as_list (first_lowest (refusals_at (last_name (readings_of rs)) (faults_of r.number (file_strays (readings_of rs))) r))

-- what is refused of the statements that are left
abbrev pub left_refused : List ReadStatement → ℕ → List Refusal
left_refused rs i = flat_map (refused rs) (readings_from i (drop i rs))

-- one fewer is left
pub refused_more : (rs : List ReadStatement) (i : ℕ) (r : ReadStatement) (unit : List ℕ) (slots : List (Option Fault)) (slot : Option Fault) (strays : List Stray) (made : Option Refusal) (old new all : List Refusal)
    → i < length rs → r ≡ get_or rs i r → unit ≡ last_name (readings_of rs) → strays ≡ file_strays (readings_of rs) → AreLowest slots (length rs) strays → slot ≡ get_or slots i slot
    → ((n : ℕ) → made ≡ refusal_with unit slot (reading_at n r)) → new ≡ old ++ as_list made → old ++ left_refused rs i ≡ all → new ++ left_refused rs (i + 1) ≡ all
refused_more rs i r unit slots slot strays made old new all lt at named known lows held made_is more so =
    ap (λ l. l ++ left_refused rs (i + 1)) (more ∙ ap (λ m. old ++ as_list m) one) ∙ append_assoc old (refused rs (reading_at i r)) (left_refused rs (i + 1))
    ∙ ap (λ l. old ++ flat_map (refused rs) l) (sym (readings_more rs i r lt at)) ∙ so
  where
    lowest : slot ≡ lowest_of (faults_of i (file_strays (readings_of rs)))
    lowest = held ∙ get_or_from_slice_get slots i (lowest_of (faults_of i strays)) slot (lows.lowest i lt) ∙ ap (λ l. lowest_of (faults_of i l)) known

    one : made ≡ first_lowest (refusals_at (last_name (readings_of rs)) (faults_of i (file_strays (readings_of rs))) (reading_at i r))
    one = made_is i ∙ (λ j. refusal_with (named j) (lowest j) (reading_at i r)) ∙ refusal_lowest (last_name (readings_of rs)) (reading_at i r) (faults_of i (file_strays (readings_of rs)))

-- none is left
pub refused_done : (rs : List ReadStatement) (i : ℕ) (made all : List Refusal) → length rs ≤ i → made ++ left_refused rs i ≡ all → made ≡ all
refused_done rs i made all le so = sym (append-nil made) ∙ ap (λ l. made ++ flat_map (refused rs) l) (sym (readings_done rs i le)) ∙ so
