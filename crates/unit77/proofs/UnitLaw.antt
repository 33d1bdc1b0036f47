-- Nothing is refused of statements exactly where they are those of units.
use Rattle.std.proofs.Common.{◌≡◌, ◌⊎◌, inl, inr, ◌≤◌, ℕ, Bool, true, false, not, List, [], ◌∷◌, ◌++◌, length, map, refl, sym, ap, ◌∙◌, append_assoc, append-nil, arith}
use Rattle.std.specs.Prelude.{nat_le, if◌then◌else◌, ◌&&◌}
use Rattle.std.specs.List.{list_all}
use Rattle.std.proofs.lemmas.Bool.{leb-true, le-leb}
use Rattle.std.proofs.lemmas.List.{map-append}
use Rattle.tree77.specs.Statements as s
use Rattle.tree77.specs.Statements.{Declared, Simple, Statement, header, declared, statement_function, guarded, if_then, else_if, else_, end_if, do_, end}
use Rattle.unit77.specs.declared.limits.TheConstants.{MOST_LABELS}
use Rattle.order77.specs.declared.mark.Sort.{Sort}
use Rattle.order77.specs.declared.mark.Sort.TheVariants.{Plain, Leaving}
use Rattle.order77.specs.declared.mark.Fault.TheVariants as fault
use Rattle.unit77.specs.Tree.{Line}
use Rattle.order77.specs.Counts.{simple_sort, counts_nothing, counts_declared, counts_simple, counts_of, is_end, counts_as}
use Rattle.unit77.specs.Nesting.{is_executable}
use Rattle.unit77.specs.Refusals.{loops, lacking, at_end}
use Rattle.unit77.specs.Units.{mark_as, stray, strays_where, strays_at, jumps_among, different, end_strays, missing, strays_behind}
use Rattle.unit77.specs.Programs.{reading_of, those, is_header, is_declared, is_function, first_of, ProgramUnit, IsUnit, AreUnits}
use Rattle.unit77.proofs.Law.{is_nil, last_not_nil, nests_or_not}
use Rattle.unit77.proofs.Places.{EachPlace, each_place, at_place, both_empty, empty_both, not_where, open_at, Stands, stands, no_strays, shows_all, shallow, Given, each_stands}

-- ---- one statement

end_declared : (d : Declared) → is_end (counts_declared d) ≡ false
end_declared (s.implicit is) = refl
end_declared (s.parameter es) = refl
end_declared (s.data_ gs) = refl
end_declared (s.format xs) = refl
end_declared d = refl

end_simple : (a : Simple) (k : Sort) → is_end (counts_simple a k) ≡ false
end_simple s.return_ k = refl
end_simple a k = refl

other : {P : Type 0} (b : Bool) → b ≡ false → b ≡ true → P
other b p q = absurd cc

-- END alone counts as END
ends : (x : Statement) → is_end (counts_of x) ≡ true → x ≡ end
ends (header h) e = absurd cc
ends (declared d) e = other _ (end_declared d) e
ends (statement_function f ds x) e = absurd cc
ends (s.simple a) e = other _ (end_simple a (simple_sort a)) e
ends (guarded x a) e = other _ (end_simple a Plain) e
ends (if_then x) e = absurd cc
ends (else_if x) e = absurd cc
ends else_ e = absurd cc
ends end_if e = absurd cc
ends (do_ t r) e = absurd cc
ends end e = refl

pub not_end : (x : Statement) → (x ≡ end → ⊥) → is_end (counts_of x) ≡ false
not_end x no_end = go (is_end (counts_of x)) refl
  where
    go : (b : Bool) → is_end (counts_of x) ≡ b → b ≡ false
    go true e = absurd (no_end (ends x e))
    go false e = refl

spelled_declared : (d : Declared) → counts_nothing (counts_declared d) ≡ false
spelled_declared (s.implicit is) = refl
spelled_declared (s.parameter es) = refl
spelled_declared (s.data_ gs) = refl
spelled_declared (s.format xs) = refl
spelled_declared d = refl

spelled_simple : (a : Simple) (k : Sort) → counts_nothing (counts_simple a k) ≡ false
spelled_simple s.return_ k = refl
spelled_simple a k = refl

pub spelled : (x : Statement) → counts_nothing (counts_of x) ≡ false
spelled (header h) = refl
spelled (declared d) = spelled_declared d
spelled (statement_function f ds x) = refl
spelled (s.simple a) = spelled_simple a (simple_sort a)
spelled (guarded x a) = spelled_simple a Plain
spelled (if_then x) = refl
spelled (else_if x) = refl
spelled else_ = refl
spelled end_if = refl
spelled (do_ t r) = refl
spelled end = refl

-- ---- one unit

pub unit_of : (own : List Line) (e : Line) → e.statement ≡ end → EachPlace Stands [] own → end_strays (map reading_of own) (reading_of e) ≡ [] → (u : ProgramUnit) × IsUnit own u × (u.last ≡ e)
unit_of own e ends_e each none =
    let parts = both_empty (at_end (open_at own) (mark_as (reading_of e) Leaving)) (strays_where (not (nat_le (length (different (jumps_among (map reading_of own)))) MOST_LABELS)) (stray (reading_of e) fault.Labels)) none in
    let nested = (nests_or_not (those is_executable own) (mark_as (reading_of e) Leaving)).0 (shows_all (mark_as (reading_of e) Leaving) [] own each ∙ parts.0) in (
      record { number = (first_of own e).number; place = (first_of own e).place; headers = those is_header own; declared = those is_declared own; functions = those is_function own; items = nested.0; last = e },
      record {
        ends = ends_e;
        inside = λ front rest l cut is. other _ (at_place Stands [] own front rest l each cut).goes_on (ap (λ x. is_end (counts_of x)) is);
        number = refl;
        place = refl;
        headers = refl;
        declared = refl;
        functions = refl;
        nested = nested.1;
        ordered = λ front rest l cut. (at_place Stands [] own front rest l each cut).placed;
        shallow = λ front rest cut. shallow [] own front rest each (omega arith) cut;
        few_labels = few (nat_le (length (different (jumps_among (map reading_of own)))) MOST_LABELS) refl (not_where _ _ parts.1);
      },
      refl,
    )
  where
    few : (b : Bool) → nat_le (length (different (jumps_among (map reading_of own)))) MOST_LABELS ≡ b → not b ≡ false → length (different (jumps_among (map reading_of own))) ≤ MOST_LABELS
    few true is e = leb-true _ MOST_LABELS is
    few false is e = absurd cc

pub unit_stands : (own : List Line) (u : ProgramUnit) → IsUnit own u → EachPlace Stands [] own × (end_strays (map reading_of own) (reading_of u.last) ≡ [])
unit_stands own u unit = (further.0, empty_both _ _ further.1 (ap (λ b. strays_where (not b) (stray (reading_of u.last) fault.Labels)) (le-leb _ MOST_LABELS unit.few_labels)))
  where
    given : EachPlace Given [] own
    given = each_place Given [] own (λ front rest l cut. record {
      goes_on = not_end l.statement (unit.inside front rest l cut);
      placed = unit.ordered front rest l cut;
      low = unit.shallow (front ++ l ∷ []) rest (cut ∙ sym (append_assoc front (l ∷ []) rest));
    })

    further : EachPlace Stands [] own × (at_end (open_at own) (mark_as (reading_of u.last) Leaving) ≡ [])
    further = each_stands (mark_as (reading_of u.last) Leaving) [] own given ((nests_or_not (those is_executable own) (mark_as (reading_of u.last) Leaving)).1 (u.items, unit.nested))

-- ---- all units

if_true : {A : Type 0} (b : Bool) (x y : A) → b ≡ true → (if b then x else y) ≡ x
if_true b x y e = ap (λ c. if c then x else y) e

if_false : {A : Type 0} (b : Bool) (x y : A) → b ≡ false → (if b then x else y) ≡ y
if_false b x y e = ap (λ c. if c then x else y) e

-- a unit shows nothing
passes : (before own rest : List Line) (e : Line) (n : ℕ) → EachPlace Stands before own → e.statement ≡ end → end_strays (map reading_of (before ++ own)) (reading_of e) ≡ []
    → strays_behind (map reading_of before) n (map reading_of (own ++ e ∷ rest)) ≡ strays_behind [] e.number (map reading_of rest)
passes before [] rest e n each is none =
    if_true (is_end (counts_of e.statement)) _ _ (ap (λ x. is_end (counts_of x)) is)
    ∙ ap (λ x. x ++ strays_behind [] e.number (map reading_of rest)) (ap (λ b. end_strays (map reading_of b) (reading_of e)) (sym (append-nil before)) ∙ none)
passes before (l ∷ own) rest e n each is none =
    if_false (is_end (counts_of l.statement)) _ _ each.0.goes_on
    ∙ ap (λ x. x ++ strays_behind (map reading_of before ++ reading_of l ∷ []) l.number (map reading_of (own ++ e ∷ rest))) (no_strays before l each.0)
    ∙ ap (λ b. strays_behind b l.number (map reading_of (own ++ e ∷ rest))) (sym (map-append reading_of before (l ∷ [])))
    ∙ passes (before ++ l ∷ []) own rest e l.number each.1 is (ap (λ b. end_strays (map reading_of b) (reading_of e)) (append_assoc before (l ∷ []) own) ∙ none)

pub units_pass : (ls : List Line) (us : List ProgramUnit) (n : ℕ) → AreUnits ls us → strays_behind [] n (map reading_of ls) ≡ []
units_pass ls [] n nothing = ap (λ x. strays_behind [] n (map reading_of x)) nothing
units_pass ls (u ∷ us) n (own, rest, cut, unit, units) =
    let p = unit_stands own u unit in
    ap (λ x. strays_behind [] n (map reading_of x)) cut ∙ passes [] own rest u.last n p.0 unit.ends p.1 ∙ units_pass rest us u.last.number units

-- the next unit, of which some statements stand before, and the units behind it
record Next (before ls : List Line) : Type 0 where
  own : List Line
  last : Line
  rest : List Line
  us : List ProgramUnit
  cut : ls ≡ own ++ last ∷ rest
  ends : last.statement ≡ end
  each : EachPlace Stands before own
  none : end_strays (map reading_of (before ++ own)) (reading_of last) ≡ []
  units : AreUnits rest us

abbrev Parts : List Line → List Line → Type 0
Parts before ls = ((before ≡ []) × (ls ≡ [])) ⊎ Next before ls

units_in : (ls : List Line) → Parts [] ls → (us : List ProgramUnit) × AreUnits ls us
units_in ls (inl p) = ([], p.1)
units_in ls (inr p) =
    let (u, unit, same) = unit_of p.own p.last p.ends p.each p.none in
    (u ∷ p.us, (p.own, p.rest, p.cut ∙ ap (λ e. p.own ++ e ∷ p.rest) (sym same), unit, p.units))

-- a unit without END is refused
pub missing_end : (b : Line) (before : List Line) (n : ℕ) → missing (map reading_of (b ∷ before)) n ≡ [] → ⊥
missing_end b before n none = go (counts_nothing (counts_of b.statement) && list_all (λ r. counts_nothing (counts_as r)) (map reading_of before)) (ap (λ c. c && list_all (λ r. counts_nothing (counts_as r)) (map reading_of before)) (spelled b.statement)) none
  where
    go : (c : Bool) → c ≡ false → (if c then [] else map lacking (loops (open_at (b ∷ before))) ++ record { number = n; fault = fault.MissingEnd } ∷ []) ≡ [] → ⊥
    go true e none = absurd cc
    go false e none = other _ (last_not_nil (map lacking (loops (open_at (b ∷ before)))) (record { number = n; fault = fault.MissingEnd })) (ap is_nil none)

empty_not : (before : List Line) (l : Line) → before ++ l ∷ [] ≡ [] → ⊥
empty_not [] l e = absurd cc
empty_not (b ∷ before) l e = absurd cc

parts_of : (before ls : List Line) (n : ℕ) → strays_behind (map reading_of before) n (map reading_of ls) ≡ [] → Parts before ls
parts_of [] [] n none = inl (refl, refl)
parts_of (b ∷ before) [] n none = absurd (missing_end b before n none)
parts_of before (l ∷ ls) n none = go (is_end (counts_of l.statement)) refl none (λ e. units_in ls (parts_of [] ls l.number e)) (parts_of (before ++ l ∷ []) ls l.number)
  where
    further : is_end (counts_of l.statement) ≡ false → strays_at (map reading_of before) (reading_of l) ≡ [] → Parts (before ++ l ∷ []) ls → Parts before (l ∷ ls)
    further is at (inl p) = absurd (empty_not before l p.0)
    further is at (inr p) = inr (record {
      own = l ∷ p.own;
      last = p.last;
      rest = p.rest;
      us = p.us;
      cut = ap (λ x. l ∷ x) p.cut;
      ends = p.ends;
      each = (stands before l is at, p.each);
      none = ap (λ b. end_strays (map reading_of b) (reading_of p.last)) (sym (append_assoc before (l ∷ []) p.own)) ∙ p.none;
      units = p.units;
    })

    go : (b : Bool) → is_end (counts_of l.statement) ≡ b
        → (if b then end_strays (map reading_of before) (reading_of l) ++ strays_behind [] l.number (map reading_of ls) else strays_at (map reading_of before) (reading_of l) ++ strays_behind (map reading_of before ++ reading_of l ∷ []) l.number (map reading_of ls)) ≡ []
        → (strays_behind [] l.number (map reading_of ls) ≡ [] → (us : List ProgramUnit) × AreUnits ls us)
        → (strays_behind (map reading_of (before ++ l ∷ [])) l.number (map reading_of ls) ≡ [] → Parts (before ++ l ∷ []) ls)
        → Parts before (l ∷ ls)
    go true is e units more =
        let p = both_empty (end_strays (map reading_of before) (reading_of l)) (strays_behind [] l.number (map reading_of ls)) e in
        let behind = units p.1 in
        inr (record {
          own = [];
          last = l;
          rest = ls;
          us = behind.0;
          cut = refl;
          ends = ends l.statement is;
          each = tt;
          none = ap (λ b. end_strays (map reading_of b) (reading_of l)) (append-nil before) ∙ p.0;
          units = behind.1;
        })
    go false is e units more =
        let p = both_empty (strays_at (map reading_of before) (reading_of l)) (strays_behind (map reading_of before ++ reading_of l ∷ []) l.number (map reading_of ls)) e in
        further is p.0 (more (ap (λ b. strays_behind b l.number (map reading_of ls)) (map-append reading_of before (l ∷ [])) ∙ p.1))

pub units_found : (ls : List Line) (n : ℕ) → strays_behind [] n (map reading_of ls) ≡ [] → (us : List ProgramUnit) × AreUnits ls us
units_found ls n none = units_in ls (parts_of [] ls n none)
