-- What the pass over the statements of a file keeps behind one more, and what it refuses.
use Rattle.std.proofs.Common.{◌≡◌, ℕ, ◌+◌, ◌<◌, ◌≤◌, Bool, true, false, not, ◌||◌, List, [], ◌∷◌, ◌++◌, length, drop, get_or, Option, if◌then◌else◌, nat_lt, arith, refl, sym, ap, subst, ◌∙◌, append_assoc}
use Rattle.std.specs.Prelude.{nat_le}
use Rattle.std.specs.List.{list_any}
use Rattle.std.proofs.lemmas.List.Sums.{fold-append}
use Rattle.std.proofs.lemmas.Grind.{common_steps}
use Rattle.unit77.specs.declared.limits.TheConstants.{MOST_LABELS}
use Rattle.order77.specs.declared.mark.Sort.{Sort}
use Rattle.order77.specs.declared.mark.Sort.TheVariants.{Leaving}
use Rattle.order77.specs.declared.mark.Stray.{Stray}
use Rattle.order77.specs.declared.mark.Fault.TheVariants as fault
use Rattle.order77.specs.declared.read.ReadStatement.{ReadStatement}
use Rattle.unit77.specs.declared.checker.Checker.{Checker}
use Rattle.unit77.specs.declared.check.Pass.{Pass}
use Rattle.unit77.specs.Checking.{open_of}
use Rattle.order77.specs.Counts.{Reading, counts_as, is_end, sort_in}
use Rattle.order77.specs.Names.{is_among}
use Rattle.order77.specs.NameSets.{with_names, with_labels}
use Rattle.unit77.specs.Passing.{IsPass, IsGoing}
use Rattle.order77.specs.ReadViews.{reading_at, readings_from}
use Rattle.unit77.specs.Refusals.{at_end}
use Rattle.unit77.specs.Units.{different, mark_as, open_behind, open_after, jumps_among, stray, strays_where, is_out_of_order, nesting_strays, strays_at, end_strays, missing, strays_behind}
use Rattle.order77.proofs.NameLemmas.{among_all}
use Rattle.unit77.proofs.LabelLemmas.{labels_different}
use Rattle.order77.proofs.Readings.{readings_more, readings_done}

-- a constant is late by the set of the names that were used
pub late_same : (held before xs : List (List ℕ)) → held ≡ with_names [] before → list_any (is_among held) xs ≡ list_any (is_among before) xs
late_same held before [] e = refl
late_same held before (x ∷ xs) e =
    ap (λ l. is_among l x || list_any (is_among held) xs) e ∙ ap (λ b. b || list_any (is_among held) xs) (among_all before x) ∙ ap (λ b. is_among before x || b) (late_same held before xs e)

-- what is open behind one more
open_more : (before : List Reading) (r : Reading) → open_after (before ++ r ∷ []) ≡ open_behind (sort_in (counts_as r)) (open_after before) r
open_more before r = fold-append (λ hs r. open_behind (sort_in (counts_as r)) hs r) [] before (r ∷ [])

pub taken_open : (before : List Reading) (r : Reading) (old mid noted new : Checker) (sort : Option Sort) → open_of old ≡ open_after before → sort ≡ sort_in (counts_as r)
    → open_of mid ≡ open_of old → noted ≡ mid → open_of new ≡ open_behind sort (open_of noted) r → open_of new ≡ open_after (before ++ r ∷ [])
taken_open before r old mid noted new sort open_ is same note more =
    more ∙ (λ i. open_behind (is i) ((ap open_of note ∙ same ∙ open_) i) r) ∙ sym (open_more before r)

-- what is refused at a statement
pub taken_strays : (before : List Reading) (r : Reading) (old mid noted new : Checker) (wrong : Bool) (sort : Option Sort) → open_of old ≡ open_after before
    → sort ≡ sort_in (counts_as r) → wrong ≡ is_out_of_order before r → open_of mid ≡ open_of old → mid.strays ≡ old.strays ++ strays_where wrong (stray r fault.Order) → noted ≡ mid
    → new.strays ≡ noted.strays ++ nesting_strays sort (open_of noted) r → new.strays ≡ old.strays ++ strays_at before r
taken_strays before r old mid noted new wrong sort open_ is order same refused note more =
    more ∙ (λ i. (ap (λ (c : Checker). c.strays) note ∙ refused) i ++ nesting_strays (is i) ((ap open_of note ∙ same ∙ open_) i) r)
    ∙ ap (λ b. (old.strays ++ strays_where b (stray r fault.Order)) ++ nesting_strays (sort_in (counts_as r)) (open_after before) r) order
    ∙ append_assoc old.strays (strays_where (is_out_of_order before r) (stray r fault.Order)) (nesting_strays (sort_in (counts_as r)) (open_after before) r)

above : (a b : ℕ) → nat_lt a b ≡ not (nat_le b a)
above a b = grind (arith, common_steps)

-- what is refused at END
pub ended_strays : (before : List Reading) (r : Reading) (old mid new : Checker) (held : List ℕ) (count : ℕ) → open_of old ≡ open_after before → held ≡ with_labels [] (jumps_among before)
    → count ≡ length held → mid.strays ≡ old.strays ++ at_end (open_of old) (mark_as r Leaving)
    → new.strays ≡ mid.strays ++ strays_where (nat_lt MOST_LABELS count) (stray r fault.Labels) → new.strays ≡ old.strays ++ end_strays before r
ended_strays before r old mid new held count open_ labels many ended more =
    more ∙ ap (λ l. l ++ strays_where (nat_lt MOST_LABELS count) (stray r fault.Labels)) (ended ∙ ap (λ hs. old.strays ++ at_end hs (mark_as r Leaving)) open_)
    ∙ ap (λ b. (old.strays ++ at_end (open_after before) (mark_as r Leaving)) ++ strays_where b (stray r fault.Labels))
    (above MOST_LABELS count ∙ ap (λ n. not (nat_le n MOST_LABELS)) (many ∙ ap length (labels ∙ labels_different (jumps_among before))))
    ∙ append_assoc old.strays (at_end (open_after before) (mark_as r Leaving)) (strays_where (not (nat_le (length (different (jumps_among before))) MOST_LABELS)) (stray r fault.Labels))

-- ---- what is refused of all

-- behind END
pub ended_going : (all : List Stray) (n : ℕ) (rs : List Reading) (r : Reading) (old new : Pass) → is_end (counts_as r) ≡ true → IsPass [] new
    → ((before : List Reading) → IsPass before old → new.checker.strays ≡ old.checker.strays ++ end_strays before r) → IsGoing all n (r ∷ rs) old → IsGoing all r.number rs new
ended_going all n rs r old new is pass strays going = record {
  before = [];
  pass = pass;
  strays = ap (λ l. l ++ strays_behind [] r.number rs) (strays going.before going.pass) ∙ append_assoc old.checker.strays (end_strays going.before r) (strays_behind [] r.number rs)
      ∙ sym (ap (λ b. old.checker.strays ++ (if b then end_strays going.before r ++ strays_behind [] r.number rs else strays_at going.before r ++ strays_behind (going.before ++ r ∷ []) r.number rs)) is)
      ∙ going.strays;
}

-- behind another statement
pub taken_going : (all : List Stray) (n : ℕ) (rs : List Reading) (r : Reading) (old new : Pass) → is_end (counts_as r) ≡ false
    → ((before : List Reading) → IsPass before old → is_end (counts_as r) ≡ false → IsPass (before ++ r ∷ []) new)
    → ((before : List Reading) → IsPass before old → is_end (counts_as r) ≡ false → new.checker.strays ≡ old.checker.strays ++ strays_at before r) → IsGoing all n (r ∷ rs) old → IsGoing all r.number rs new
taken_going all n rs r old new is pass strays going =
    let behind : List Reading = going.before ++ r ∷ [] in
    record {
      before = behind;
      pass = pass going.before going.pass is;
      strays = ap (λ l. l ++ strays_behind behind r.number rs) (strays going.before going.pass is) ∙ append_assoc old.checker.strays (strays_at going.before r) (strays_behind behind r.number rs)
          ∙ sym (ap (λ b. old.checker.strays ++ (if b then end_strays going.before r ++ strays_behind [] r.number rs else strays_at going.before r ++ strays_behind behind r.number rs)) is)
          ∙ going.strays;
    }

-- with one fewer left
pub going_more : (all : List Stray) (rs : List ReadStatement) (i number last : ℕ) (r : ReadStatement) (old new : Pass) → i < length rs → r ≡ get_or rs i r → number ≡ i
    → ((all : List Stray) (n : ℕ) (left : List Reading) → IsGoing all n (reading_at number r ∷ left) old → IsGoing all number left new)
    → IsGoing all last (readings_from i (drop i rs)) old → IsGoing all number (readings_from (i + 1) (drop (i + 1) rs)) new
going_more all rs i number last r old new lt at is step going =
    let left : List Reading = readings_from (i + 1) (drop (i + 1) rs) in
    step all last left (subst (λ xs. IsGoing all last xs old) (readings_more rs i r lt at ∙ ap (λ k. reading_at k r ∷ left) (sym is)) going)

-- with none left
pub going_done : (all made : List Stray) (rs : List ReadStatement) (i last : ℕ) (p : Pass) → length rs ≤ i
    → ((before : List Reading) → IsPass before p → made ≡ p.checker.strays ++ missing before last) → IsGoing all last (readings_from i (drop i rs)) p → made ≡ all
going_done all made rs i last p le finish going =
    finish going.before going.pass ∙ ap (λ xs. p.checker.strays ++ strays_behind going.before last xs) (sym (readings_done rs i le)) ∙ going.strays
