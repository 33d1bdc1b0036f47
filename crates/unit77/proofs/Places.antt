-- What holds at each place among the statements of a unit, and what nesting shows over all of them.
use Rattle.std.proofs.Common.{◌≡◌, ◌≤◌, ℕ, Bool, true, false, List, [], ◌∷◌, ◌++◌, length, map, Option, Some, None, refl, sym, ap, ◌∙◌, subst, append_assoc, append-nil, arith}
use Rattle.std.specs.Prelude.{nat_lt, if◌then◌else◌}
use Rattle.std.proofs.lemmas.Bool.{ltb-false, le-ltb}
use Rattle.std.proofs.lemmas.List.{map-append}
use Rattle.std.proofs.lemmas.List.Sums.{fold-append}
use Rattle.tree77.specs.Statements as s
use Rattle.tree77.specs.Statements.{Declared, Simple, Statement, header, declared, statement_function, guarded, if_then, else_if, else_, end_if, do_, end}
use Rattle.unit77.specs.declared.limits.TheConstants.{MOST_NESTED}
use Rattle.order77.specs.declared.mark.Sort.{Sort}
use Rattle.order77.specs.declared.mark.Sort.TheVariants.{Plain, Leaving, Do, If, ElseIf, Else, EndIf}
use Rattle.order77.specs.declared.mark.Mark.{Mark}
use Rattle.order77.specs.declared.mark.Stray.{Stray}
use Rattle.order77.specs.declared.mark.Fault.TheVariants as fault
use Rattle.unit77.specs.Tree.{Line}
use Rattle.order77.specs.Counts.{sort_of, simple_sort, Reading, counts_declared, counts_simple, counts_of, sort_in, is_end}
use Rattle.unit77.specs.Nesting.{mark, names, sort, is_executable}
use Rattle.unit77.specs.Running.{may_part, may_close, is_if, is_arm}
use Rattle.unit77.specs.Refusals.{without, outer, next_open, shown, at_end, all_shown}
use Rattle.unit77.specs.Units.{mark_as, open_behind, open_after, stray, strays_where, begins, is_deep, nesting_strays, is_out_of_order, strays_at}
use Rattle.unit77.specs.Programs.{reading_of, those}
use Rattle.unit77.proofs.OneProgram.{head_is, tail_is, not_empty}

-- ---- places

-- P holds at each of the statements, of those before it and itself
abbrev pub EachPlace : (List Line → Line → Type 0) → List Line → List Line → Type 0
EachPlace P before [] = Unit {0}
EachPlace P before (l ∷ ls) = P before l × EachPlace P (before ++ l ∷ []) ls

pub each_place : (P : List Line → Line → Type 0) (before own : List Line) → ((front rest : List Line) (l : Line) → own ≡ front ++ l ∷ rest → P (before ++ front) l) → EachPlace P before own
each_place P before [] all = tt
each_place P before (l ∷ ls) all = (
  subst (λ b. P b l) (append-nil before) (all [] ls l refl),
  each_place P (before ++ l ∷ []) ls (λ front rest x e. subst (λ b. P b x) (sym (append_assoc before (l ∷ []) front)) (all (l ∷ front) rest x (ap (λ y. l ∷ y) e))),
)

-- the statements before a place, one way and the other
moved_on : (before own front rest : List Line) (x f : Line) → x ∷ own ≡ f ∷ rest → (before ++ x ∷ []) ++ front ≡ before ++ f ∷ front
moved_on before own front rest x f e = append_assoc before (x ∷ []) front ∙ ap (λ y. before ++ y ∷ front) (head_is x f own rest e)

pub at_place : (P : List Line → Line → Type 0) (before own front rest : List Line) (l : Line) → EachPlace P before own → own ≡ front ++ l ∷ rest → P (before ++ front) l
at_place P before [] front rest l each e = absurd (not_empty front l rest e)
at_place P before (x ∷ own) [] rest l each e = subst (λ b. P b l) (sym (append-nil before)) (subst (P before) (head_is x l own rest e) each.0)
at_place P before (x ∷ own) (f ∷ front) rest l each e =
    subst (λ b. P b l) (moved_on before own front (front ++ l ∷ rest) x f e) (at_place P (before ++ x ∷ []) own front rest l each.1 (tail_is x f own (front ++ l ∷ rest) e))

-- ---- sorts

sorts_declared : (d : Declared) → sort_in (counts_declared d) ≡ None
sorts_declared (s.implicit is) = refl
sorts_declared (s.parameter es) = refl
sorts_declared (s.data_ gs) = refl
sorts_declared (s.format xs) = refl
sorts_declared d = refl

sorts_simple : (a : Simple) (k : Sort) → sort_in (counts_simple a k) ≡ Some k
sorts_simple s.return_ k = refl
sorts_simple a k = refl

-- the sort of what is executable
pub sorts : (x : Statement) → sort_in (counts_of x) ≡ (if is_executable x then Some (sort_of x) else None)
sorts (header h) = refl
sorts (declared d) = sorts_declared d
sorts (statement_function f ds x) = refl
sorts (s.simple a) = sorts_simple a (simple_sort a)
sorts (guarded x a) = sorts_simple a Plain
sorts (if_then x) = refl
sorts (else_if x) = refl
sorts else_ = refl
sorts end_if = refl
sorts (do_ t r) = refl
sorts end = refl

-- ---- one statement

pub both_empty : {A : Type 0} (xs ys : List A) → xs ++ ys ≡ [] → (xs ≡ []) × (ys ≡ [])
both_empty [] ys e = (refl, e)
both_empty (x ∷ xs) ys e = absurd cc

pub empty_both : {A : Type 0} (xs ys : List A) → xs ≡ [] → ys ≡ [] → xs ++ ys ≡ []
empty_both xs ys p q = ap (λ x. x ++ ys) p ∙ q

pub not_where : (b : Bool) (x : Stray) → strays_where b x ≡ [] → b ≡ false
not_where true x e = absurd cc
not_where false x e = refl

abbrev pub shown_in : Option Sort → List Mark → Reading → List Stray
shown_in None hs r = []
shown_in (Some k) hs r = shown hs (mark_as r k)

abbrev deep_in : Option Sort → List Mark → Reading → Bool
deep_in None hs r = false
deep_in (Some k) hs r = is_deep hs (mark_as r k)

nests_well : (o : Option Sort) (hs : List Mark) (r : Reading) → nesting_strays o hs r ≡ [] → (shown_in o hs r ≡ []) × (deep_in o hs r ≡ false)
nests_well None hs r e = (refl, refl)
nests_well (Some k) hs r e =
    let parts = both_empty (shown hs (mark_as r k)) (strays_where (is_deep hs (mark_as r k)) (stray r fault.Depth)) e in
    (parts.0, not_where (is_deep hs (mark_as r k)) (stray r fault.Depth) parts.1)

no_nesting_strays : (o : Option Sort) (hs : List Mark) (r : Reading) → shown_in o hs r ≡ [] → deep_in o hs r ≡ false → nesting_strays o hs r ≡ []
no_nesting_strays None hs r p q = refl
no_nesting_strays (Some k) hs r p q = empty_both _ _ p (ap (λ b. strays_where b (stray r fault.Depth)) q)

abbrev pub sort_at : Line → Option Sort
sort_at l = sort_in (counts_of l.statement)

-- the DOs and arms that are open behind some statements
abbrev pub open_at : List Line → List Mark
open_at before = open_after (map reading_of before)

pub open_more : (before : List Line) (l : Line) → open_at (before ++ l ∷ []) ≡ open_behind (sort_at l) (open_at before) (reading_of l)
open_more before l = ap open_after (map-append reading_of before (l ∷ [])) ∙ fold-append _ [] (map reading_of before) (reading_of l ∷ [])

-- a statement in its unit of which nothing is refused
pub record Stands (before : List Line) (l : Line) : Type 0 where
  pub goes_on : is_end (counts_of l.statement) ≡ false
  pub placed : is_out_of_order (map reading_of before) (reading_of l) ≡ false
  pub fits : shown_in (sort_at l) (open_at before) (reading_of l) ≡ []
  pub low : deep_in (sort_at l) (open_at before) (reading_of l) ≡ false

pub stands : (before : List Line) (l : Line) → is_end (counts_of l.statement) ≡ false → strays_at (map reading_of before) (reading_of l) ≡ [] → Stands before l
stands before l on e =
    let parts = both_empty (strays_where (is_out_of_order (map reading_of before) (reading_of l)) (stray (reading_of l) fault.Order)) (nesting_strays (sort_at l) (open_at before) (reading_of l)) e in
    let nests = nests_well (sort_at l) (open_at before) (reading_of l) parts.1 in
    record { goes_on = on; placed = not_where _ _ parts.0; fits = nests.0; low = nests.1 }

pub no_strays : (before : List Line) (l : Line) → Stands before l → strays_at (map reading_of before) (reading_of l) ≡ []
no_strays before l p = empty_both _ _ (ap (λ b. strays_where b (stray (reading_of l) fault.Order)) p.placed) (no_nesting_strays (sort_at l) (open_at before) (reading_of l) p.fits p.low)

-- ---- nesting over all statements

abbrev pub marks : List Line → List Mark
marks ls = map mark (those is_executable ls)

shows_one : (e : Mark) (hs : List Mark) (l : Line) (ls : List Line) → all_shown e hs (marks (l ∷ ls)) ≡ shown_in (sort_at l) hs (reading_of l) ++ all_shown e (open_behind (sort_at l) hs (reading_of l)) (marks ls)
shows_one e hs l ls = go (is_executable l.statement) ∙ sym (ap (λ o. shown_in o hs (reading_of l) ++ all_shown e (open_behind o hs (reading_of l)) (marks ls)) (sorts l.statement))
  where
    go : (b : Bool) → all_shown e hs (map mark (if b then l ∷ those is_executable ls else those is_executable ls)) ≡ shown_in (if b then Some (sort l) else None) hs (reading_of l) ++ all_shown e (open_behind (if b then Some (sort l) else None) hs (reading_of l)) (marks ls)
    go true = refl
    go false = refl

pub shows_all : (e : Mark) (before own : List Line) → EachPlace Stands before own → all_shown e (open_at before) (marks own) ≡ at_end (open_at (before ++ own)) e
shows_all e before [] each = ap (λ x. at_end (open_at x) e) (sym (append-nil before))
shows_all e before (l ∷ ls) each =
    shows_one e (open_at before) l ls ∙ ap (λ xs. xs ++ all_shown e (open_behind (sort_at l) (open_at before) (reading_of l)) (marks ls)) each.0.fits
    ∙ ap (λ hs. all_shown e hs (marks ls)) (sym (open_more before l))
    ∙ shows_all e (before ++ l ∷ []) ls each.1 ∙ ap (λ x. at_end (open_at x) e) (append_assoc before (l ∷ []) ls)

-- ---- depth

without_shorter : (k : ℕ) (hs : List Mark) → length (without k hs) ≤ length hs
without_shorter k [] = omega arith
without_shorter k (h ∷ hs) = go (names k h.sort) (without_shorter k hs)
  where
    go : (b : Bool) → length (without k hs) ≤ length hs → length (if b then without k hs else h ∷ without k hs) ≤ length (h ∷ hs)
    go true p = omega arith
    go false p = omega arith

parted_same : (m : Mark) (hs : List Mark) → length (if may_part hs then m ∷ outer hs else hs) ≤ length hs
parted_same m [] = omega arith
parted_same m (h ∷ hs) = go (is_if h.sort)
  where
    go : (b : Bool) → length (if b then m ∷ hs else h ∷ hs) ≤ length (h ∷ hs)
    go true = omega arith
    go false = omega arith

closed_shorter : (hs : List Mark) → length (if may_close hs then outer hs else hs) ≤ length hs
closed_shorter [] = omega arith
closed_shorter (h ∷ hs) = go (is_arm h.sort)
  where
    go : (b : Bool) → length (if b then hs else h ∷ hs) ≤ length (h ∷ hs)
    go true = omega arith
    go false = omega arith

low_next : (most : ℕ) (k : Sort) (m : Mark) (hs : List Mark) → (if begins k then nat_lt most (length (next_open k m hs)) else false) ≡ false → length hs ≤ most → length (next_open k m hs) ≤ most
low_next most Plain m hs low below = let p = without_shorter m.label hs in omega arith
low_next most Leaving m hs low below = let p = without_shorter m.label hs in omega arith
low_next most (Do t) m hs low below = ltb-false most _ low
low_next most If m hs low below = ltb-false most _ low
low_next most ElseIf m hs low below = let p = parted_same m hs in omega arith
low_next most Else m hs low below = let p = parted_same m hs in omega arith
low_next most EndIf m hs low below = let p = closed_shorter hs in omega arith

low_behind : (o : Option Sort) (hs : List Mark) (r : Reading) → deep_in o hs r ≡ false → length hs ≤ MOST_NESTED → length (open_behind o hs r) ≤ MOST_NESTED
low_behind None hs r low below = below
low_behind (Some k) hs r low below = low_next MOST_NESTED k (mark_as r k) hs low below

pub shallow : (before own front rest : List Line) → EachPlace Stands before own → length (open_at before) ≤ MOST_NESTED → own ≡ front ++ rest → length (open_at (before ++ front)) ≤ MOST_NESTED
shallow before own [] rest each below e = subst (λ b. length (open_at b) ≤ MOST_NESTED) (sym (append-nil before)) below
shallow before [] (f ∷ front) rest each below e = absurd cc
shallow before (x ∷ own) (f ∷ front) rest each below e =
    subst (λ b. length (open_at b) ≤ MOST_NESTED) (moved_on before own front (front ++ rest) x f e)
    (shallow (before ++ x ∷ []) own front rest each.1
    (subst (λ hs. length hs ≤ MOST_NESTED) (sym (open_more before x)) (low_behind (sort_at x) (open_at before) (reading_of x) each.0.low below)) (tail_is x f own (front ++ rest) e))

not_deep : (o : Option Sort) (hs : List Mark) (r : Reading) → length (open_behind o hs r) ≤ MOST_NESTED → deep_in o hs r ≡ false
not_deep None hs r below = refl
not_deep (Some k) hs r below = go (begins k)
  where
    go : (b : Bool) → (if b then nat_lt MOST_NESTED (length (next_open k (mark_as r k) hs)) else false) ≡ false
    go true = le-ltb MOST_NESTED _ below
    go false = refl

-- ---- back

-- what a unit says of a statement
pub record Given (before : List Line) (l : Line) : Type 0 where
  pub goes_on : is_end (counts_of l.statement) ≡ false
  pub placed : is_out_of_order (map reading_of before) (reading_of l) ≡ false
  pub low : length (open_at (before ++ l ∷ [])) ≤ MOST_NESTED

pub each_stands : (e : Mark) (before own : List Line) → EachPlace Given before own → all_shown e (open_at before) (marks own) ≡ [] → EachPlace Stands before own × (at_end (open_at (before ++ own)) e ≡ [])
each_stands e before [] each none = (tt, ap (λ x. at_end (open_at x) e) (append-nil before) ∙ none)
each_stands e before (l ∷ ls) each none =
    let parts = both_empty _ _ (sym (shows_one e (open_at before) l ls) ∙ none) in
    let further = each_stands e (before ++ l ∷ []) ls each.1 (ap (λ hs. all_shown e hs (marks ls)) (open_more before l) ∙ parts.1) in (
      (
        record {
          goes_on = each.0.goes_on;
          placed = each.0.placed;
          fits = parts.0;
          low = not_deep (sort_at l) (open_at before) (reading_of l) (subst (λ hs. length hs ≤ MOST_NESTED) (open_more before l) each.0.low);
        },
        further.0,
      ),
      ap (λ x. at_end (open_at x) e) (sym (append_assoc before (l ∷ []) ls)) ∙ further.1,
    )
