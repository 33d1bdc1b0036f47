-- Units are made of the statements of a file, one after another.
use Rattle.std.proofs.Common.{◌≡◌, ℕ, suc, ◌+◌, arith, Bool, true, false, not, ◌&&◌, ◌||◌, List, [], ◌∷◌, ◌++◌, map, length, Option, Some, None, refl, sym, ap, ◌∙◌, subst, append_assoc, append-nil}
use Rattle.std.specs.Prelude.{if◌then◌else◌, is_some, unwrap_or}
use Rattle.text_base.specs.declared.refusal.Place.{Place}
use Rattle.std.proofs.lemmas.List.{map-append}
use Rattle.expr_tree.specs.Plain.{expr_of}
use Rattle.tree77.specs.StatementPlain.{declared_of, simple_of, statement_of}
use Rattle.tree77.specs.declared.statement.Statement77.{Statement77}
use Rattle.tree77.specs.declared.statement.Statement77.TheVariants as code
use Rattle.tree77.specs.Statements as s
use Rattle.tree77.specs.Statements.{Statement, header, declared, statement_function, guarded, end}
use Rattle.order77.specs.declared.mark.Mark.{Mark}
use Rattle.order77.specs.declared.mark.Sort.{Sort}
use Rattle.order77.specs.declared.mark.Sort.TheVariants.{Leaving}
use Rattle.unit77.specs.declared.tree.HeaderLine77.{HeaderLine77}
use Rattle.std.specs.Option.{option_map}
use Rattle.order77.specs.declared.read.ReadStatement.{ReadStatement}
use Rattle.unit77.specs.declared.units.Gathering.{Gathering}
use Rattle.unit77.specs.declared.units.Building.{Building}
use Rattle.unit77.specs.declared.tree.Unit77.{Unit77}
use Rattle.unit77.specs.Tree.{Line}
use Rattle.order77.specs.Counts.{sort_of, Reading, counts_of, is_end, is_first, is_misplaced}
use Rattle.unit77.specs.Nesting.{mark, sort, is_executable, IsNesting}
use Rattle.unit77.specs.Running.{Open, State, heads, step, fits, run, start, end_of}
use Rattle.unit77.specs.Refusals.{at_end, shown}
use Rattle.unit77.specs.Units.{mark_as, open_behind, strays_at, end_strays, strays_behind, missing}
use Rattle.unit77.specs.Programs.{reading_of, those, is_header, is_declared, is_function, first_of, ProgramUnit, IsUnit, AreUnits}
use Rattle.unit77.specs.Views.{state_of, stack_of}
use Rattle.unit77.specs.UnitViews.{FirstIs, Gathers, HasPartsOf, IsClean, IsBuild, header_lines, declared_line, function_line, unit_of, lines_at, lines_from}
use Rattle.unit77.proofs.Law.{is_nil, nil_shown, nil_end, next_heads}
use Rattle.unit77.proofs.Sound.{nests}
use Rattle.unit77.proofs.Places.{EachPlace, each_place, at_place, both_empty, Stands, stands, shown_in, sorts, sort_at, open_at, open_more}
use Rattle.unit77.proofs.OneProgram.{not_empty}
use Rattle.unit77.proofs.UnitLaw as law

-- ---- a statement that is gathered

pub if_true : {A : Type 0} (b : Bool) (x y : A) → b ≡ true → (if b then x else y) ≡ x
if_true b x y e = ap (λ c. if c then x else y) e

pub if_false : {A : Type 0} (b : Bool) (x y : A) → b ≡ false → (if b then x else y) ≡ y
if_false b x y e = ap (λ c. if c then x else y) e

those_more : (f : Statement → Bool) (own : List Line) (l : Line) → those f (own ++ l ∷ []) ≡ those f own ++ (if f l.statement then l ∷ [] else [])
those_more f [] l = refl
those_more f (x ∷ own) l = go (f x.statement) (those_more f own l)
  where
    go : (b : Bool) → those f (own ++ l ∷ []) ≡ those f own ++ (if f l.statement then l ∷ [] else []) → (if b then x ∷ those f (own ++ l ∷ []) else those f (own ++ l ∷ [])) ≡ (if b then x ∷ those f own else those f own) ++ (if f l.statement then l ∷ [] else [])
    go true rec = ap (λ xs. x ∷ xs) rec
    go false rec = rec

-- what isn't of a kind leaves those of the kind as they are
without_it : (f : Statement → Bool) (own : List Line) (l : Line) → f l.statement ≡ false → those f (own ++ l ∷ []) ≡ those f own
without_it f own l e = those_more f own l ∙ ap (λ b. those f own ++ (if b then l ∷ [] else [])) e ∙ append-nil (those f own)

no_header : (x : Statement) → is_executable x ≡ true → is_header x ≡ false
no_header (header h) e = absurd cc
no_header x e = refl

no_declared : (x : Statement) → is_executable x ≡ true → is_declared x ≡ false
no_declared (declared d) e = absurd cc
no_declared x e = refl

no_function : (x : Statement) → is_executable x ≡ true → is_function x ≡ false
no_function (statement_function f ds v) e = absurd cc
no_function x e = refl

sort_here : (l : Line) → is_executable l.statement ≡ true → sort_at l ≡ Some (sort l)
sort_here l e = sorts l.statement ∙ if_true (is_executable l.statement) (Some (sort_of l.statement)) None e

-- an executable statement
pub acted : (g new : Gathering) (own : List Line) (l : Line) → Gathers g own → FirstIs new.first (own ++ l ∷ []) → new.header ≡ g.header → new.declared ≡ g.declared → new.functions ≡ g.functions
    → is_executable l.statement ≡ true → fits (heads (stack_of g.nester.open)) (mark l) ≡ true → state_of new.nester ≡ step (state_of g.nester) l → Gathers new (own ++ l ∷ [])
acted g new own l old first h d f acts fit stepped = record {
  first = first;
  headers = ap header_lines h ∙ old.headers ∙ sym (without_it is_header own l (no_header l.statement acts));
  declared = ap (map declared_line) d ∙ old.declared ∙ sym (without_it is_declared own l (no_declared l.statement acts));
  functions = ap (map function_line) f ∙ old.functions ∙ sym (without_it is_function own l (no_function l.statement acts));
  nested = λ rest.
      ap (λ t. run t rest) stepped ∙ sym (if_true (fits (heads (stack_of g.nester.open)) (mark l)) (run (step (state_of g.nester) l) rest) None fit)
      ∙ old.nested (l ∷ rest)
      ∙ ap (run start) (sym (append_assoc (those is_executable own) (l ∷ []) rest) ∙ ap (λ xs. xs ++ rest) (sym (those_more is_executable own l ∙ ap (λ b. those is_executable own ++ (if b then l ∷ [] else [])) acts)));
  open_ = ap (λ (t : State). heads t.open_) stepped ∙ next_heads l (state_of g.nester).items (state_of g.nester).open_ (sort l) fit
      ∙ ap (λ hs. open_behind (Some (sort l)) hs (reading_of l)) old.open_
      ∙ ap (λ o. open_behind o (open_at own) (reading_of l)) (sym (sort_here l acts))
      ∙ sym (open_more own l);
}

-- ---- the next statement

other : {P : Type 0} (b : Bool) → b ≡ false → b ≡ true → P
other b p q = absurd cc

each_more : (P : List Line → Line → Type 0) (before own : List Line) (l : Line) → EachPlace P before own → P (before ++ own) l → EachPlace P before (own ++ l ∷ [])
each_more P before [] l each here = (subst (λ b. P b l) (append-nil before) here, tt)
each_more P before (x ∷ own) l each here = (each.0, each_more P (before ++ x ∷ []) own l each.1 (subst (λ b. P b l) (sym (append_assoc before (x ∷ []) own)) here))

each_clean : (own : List Line) → ((before rest : List Line) (l : Line) → own ≡ before ++ l ∷ rest → IsClean before l) → EachPlace Stands [] own
each_clean own each = each_place Stands [] own (λ before rest l cut. let p = each before rest l cut in stands before l p.0 p.1)

-- what is known of a statement but END
record Known (own left : List Line) (l : Line) : Type 0 where
  clean : IsClean own l
  accepted : strays_behind (map reading_of (own ++ l ∷ [])) l.number (map reading_of left) ≡ []

known : (all left : List Line) (b : Building) (l : Line) (p : IsBuild all (l ∷ left) b) → is_end (counts_of l.statement) ≡ false → Known p.own left l
known all left b l p on =
    let parts = both_empty (strays_at (map reading_of p.own) (reading_of l)) (strays_behind (map reading_of p.own ++ reading_of l ∷ []) l.number (map reading_of left))
    (sym (if_false (is_end (counts_of l.statement)) _ _ on) ∙ p.accepted) in
    record { clean = (on, parts.0); accepted = ap (λ xs. strays_behind xs l.number (map reading_of left)) (map-append reading_of p.own (l ∷ [])) ∙ parts.1 }

-- a header stands first
headed : (before : List Reading) (x : Statement) (late : Bool) → is_header x ≡ true → (is_misplaced before (counts_of x) || late) ≡ false → is_first before ≡ true
headed before (header h) late is e = go (is_first before) e
  where
    go : (b : Bool) → (not b || late) ≡ false → b ≡ true
    go true e = refl
    go false e = absurd cc
headed before x late is e = absurd cc

nothing_before : (own : List Line) → is_first (map reading_of own) ≡ true → own ≡ []
nothing_before [] first = refl
nothing_before (o ∷ own) first = other _ (ap (λ b. b && is_first (map reading_of own)) (law.spelled o.statement)) first

no_headers : (h : Option HeaderLine77) → header_lines h ≡ [] → h ≡ None
no_headers None e = refl
no_headers (Some h) e = absurd cc

pub one_header : (all left : List Line) (b : Building) (l : Line) → IsBuild all (l ∷ left) b → is_end (counts_of l.statement) ≡ false → is_header l.statement ≡ true → b.gathering.header ≡ None
one_header all left b l p on is =
    let k = known all left b l p on in
    let first = nothing_before p.own (headed (map reading_of p.own) l.statement _ is (stands p.own l k.clean.0 k.clean.1).placed) in
    no_headers b.gathering.header (p.gathered.headers ∙ ap (those is_header) first)

-- an executable statement fits where it stands
fits_in : (o : Option Sort) (hs : List Mark) (l : Line) → o ≡ Some (sort l) → shown_in o hs (reading_of l) ≡ [] → fits hs (mark l) ≡ true
fits_in (Some k) hs l is none = sym (nil_shown hs (mark l)) ∙ ap is_nil (let same : k ≡ sort l = cc in ap (λ j. shown hs (mark_as (reading_of l) j)) (sym same) ∙ none)
fits_in None hs l is none = absurd cc

pub may_act : (all left : List Line) (b : Building) (l : Line) → IsBuild all (l ∷ left) b → is_end (counts_of l.statement) ≡ false → is_executable l.statement ≡ true → fits (heads (stack_of b.gathering.nester.open)) (mark l) ≡ true
may_act all left b l p on acts =
    let k = known all left b l p on in
    ap (λ hs. fits hs (mark l)) p.gathered.open_ ∙ fits_in (sort_at l) (open_at p.own) l (sort_here l acts) (stands p.own l k.clean.0 k.clean.1).fits

pub took : (all left : List Line) (b new : Building) (l : Line) → is_end (counts_of l.statement) ≡ false → new.units ≡ b.units
    → ((own : List Line) → Gathers b.gathering own → Gathers new.gathering (own ++ l ∷ [])) → IsBuild all (l ∷ left) b → IsBuild all left new
took all left b new l on same gathers p =
    let k = known all left b l p on in
    let each = each_more IsClean [] p.own l (each_place IsClean [] p.own p.each) k.clean in
    record {
      own = p.own ++ l ∷ [];
      gathered = gathers p.own p.gathered;
      each = λ before rest x cut. at_place IsClean [] (p.own ++ l ∷ []) before rest x each cut;
      number = l.number;
      accepted = k.accepted;
      units = λ more are. subst (λ us. AreUnits all (map unit_of us ++ more)) (sym same) (p.units more (subst (λ ls. AreUnits ls more) (append_assoc p.own (l ∷ []) left) are));
    }

-- ---- END

-- nothing is open where nothing is refused of END
none_open : (s : State) (hs : List Mark) (e : Mark) → heads s.open_ ≡ hs → at_end hs e ≡ [] → heads s.open_ ≡ []
none_open s hs e are none = go s.open_ (sym (nil_end s e) ∙ ap is_nil (ap (λ x. at_end x e) are ∙ none))
  where
    go : (os : List Open) → is_some (end_of s.items os) ≡ true → heads os ≡ []
    go [] some = refl
    go (o ∷ os) some = absurd (let f : false ≡ true = some in cc)

-- a unit with the parts of its statements
with_parts : (own : List Line) (e : Line) (u : ProgramUnit) → (v : ProgramUnit) × IsUnit own v × (v.last ≡ e) → HasPartsOf own u → u.last ≡ e → IsUnit own u
with_parts own e u (v, is, last) parts same = record {
  ends = ap (λ (l : Line). l.statement) (same ∙ sym last) ∙ is.ends;
  inside = is.inside;
  number = parts.number;
  place = parts.place;
  headers = parts.headers;
  declared = parts.declared;
  functions = parts.functions;
  nested = parts.nested;
  ordered = is.ordered;
  shallow = is.shallow;
  few_labels = is.few_labels;
}

pub ended : (all left : List Line) (b new : Building) (e : Line) (u : Unit77) → e.statement ≡ end → new.units ≡ b.units ++ u ∷ [] → Gathers new.gathering []
    → ((own : List Line) → Gathers b.gathering own → heads (stack_of b.gathering.nester.open) ≡ [] → HasPartsOf own (unit_of u)) → (unit_of u).last ≡ e
    → IsBuild all (e ∷ left) b → IsBuild all left new
ended all left b new e u ends same empty parts last p =
    let refused = both_empty (end_strays (map reading_of p.own) (reading_of e)) (strays_behind [] e.number (map reading_of left)) (sym (if_true (is_end (counts_of e.statement)) _ _ (ap (λ x. is_end (counts_of x)) ends)) ∙ p.accepted) in
    let closed = both_empty (at_end (open_at p.own) (mark_as (reading_of e) Leaving)) _ refused.0 in
    let unit = with_parts p.own e (unit_of u) (law.unit_of p.own e ends (each_clean p.own p.each) refused.0)
    (parts p.own p.gathered (none_open (state_of b.gathering.nester) (open_at p.own) (mark_as (reading_of e) Leaving) p.gathered.open_ closed.0)) last in
    record {
      own = [];
      gathered = empty;
      each = λ before rest x cut. absurd (not_empty before x rest cut);
      number = e.number;
      accepted = refused.1;
      units = λ more are. subst (λ us. AreUnits all (us ++ more)) (sym (ap (map unit_of) same ∙ map-append unit_of b.units (u ∷ [])))
          (subst (AreUnits all) (sym (append_assoc (map unit_of b.units) (unit_of u ∷ []) more))
          (p.units (unit_of u ∷ more) (p.own, left, ap (λ x. p.own ++ x ∷ left) (sym last), unit, are)));
    }

-- ---- the file ends

pub finished : (all : List Line) (b : Building) → IsBuild all [] b → AreUnits all (map unit_of b.units)
finished all b p = subst (AreUnits all) (append-nil (map unit_of b.units)) (p.units [] (append-nil p.own ∙ go p.own p.accepted))
  where
    go : (own : List Line) → missing (map reading_of own) p.number ≡ [] → own ≡ []
    go [] e = refl
    go (o ∷ own) e = absurd (law.missing_end o own p.number e)

pub begun : (all : List Line) (b : Building) → Gathers b.gathering [] → b.units ≡ [] → strays_behind [] 0 (map reading_of all) ≡ [] → IsBuild all all b
begun all b empty none accepted = record {
  own = [];
  gathered = empty;
  each = λ before rest x cut. absurd (not_empty before x rest cut);
  number = 0;
  accepted = accepted;
  units = λ more are. subst (λ us. AreUnits all (map unit_of us ++ more)) (sym none) are;
}

-- ---- the parts of a unit

none_stacked : (os : List Open) → heads os ≡ [] → os ≡ []
none_stacked [] e = refl
none_stacked (o ∷ os) e = absurd cc

nests_whole : (own : List Line) (s : State) → ((rest : List Line) → run s rest ≡ run start (those is_executable own ++ rest)) → heads s.open_ ≡ [] → IsNesting (those is_executable own) s.items
nests_whole own s goes closed =
    nests (those is_executable own) s.items
    (sym (goes [] ∙ ap (run start) (append-nil (those is_executable own))) ∙ ap (end_of s.items) (none_stacked s.open_ closed))

begins_at : (own : List Line) (e : Line) (first : Option (ℕ × Place)) → FirstIs first own → unwrap_or first (e.number, e.place) ≡ ((first_of own e).number, (first_of own e).place)
begins_at [] e first is = ap (λ o. unwrap_or o (e.number, e.place)) is
begins_at (l ∷ own) e first is = ap (λ o. unwrap_or o (e.number, e.place)) is

pub has_parts : (own : List Line) (g : Gathering) (u : ProgramUnit) → (u.number, u.place) ≡ unwrap_or g.first (u.last.number, u.last.place) → u.headers ≡ header_lines g.header → u.declared ≡ map declared_line g.declared
    → u.functions ≡ map function_line g.functions → u.items ≡ (state_of g.nester).items → Gathers g own → heads (stack_of g.nester.open) ≡ [] → HasPartsOf own u
has_parts own g u first h d f i gathered closed =
    let at = first ∙ begins_at own u.last g.first gathered.first in record {
      number = ap (λ (p : ℕ × Place). p.0) at;
      place = ap (λ (p : ℕ × Place). p.1) at;
      headers = h ∙ gathered.headers;
      declared = d ∙ gathered.declared;
      functions = f ∙ gathered.functions;
      nested = subst (IsNesting (those is_executable own)) (sym i) (nests_whole own (state_of g.nester) gathered.nested closed);
    }

-- ---- statements of the code

pub other_than_end : (x : Statement77) → (x ≡ code.End → ⊥) → is_end (counts_of (statement_of x)) ≡ false
other_than_end code.End no_end = absurd (no_end refl)
other_than_end (code.Header h) no_end = refl
other_than_end (code.Declared d) no_end = law.not_end (declared (declared_of d)) (λ e. absurd cc)
other_than_end (code.StmtFunction f ds x) no_end = refl
other_than_end (code.Simple a) no_end = law.not_end (s.simple (simple_of a)) (λ e. absurd cc)
other_than_end (code.Guarded x a) no_end = law.not_end (guarded (expr_of x) (simple_of a)) (λ e. absurd cc)
other_than_end (code.IfThen x) no_end = refl
other_than_end (code.ElseIf x) no_end = refl
other_than_end code.Else no_end = refl
other_than_end code.EndIf no_end = refl
other_than_end (code.Do t r) no_end = refl

-- ---- the statements of a file

pub next_lines : (all : List Line) (n : ℕ) (xs rest : List ReadStatement) (r : ReadStatement) (b : Building) → xs ≡ r ∷ rest → IsBuild all (lines_from n xs) b → IsBuild all (lines_at n r (option_map statement_of r.statement) ++ lines_from (suc n) rest) b
next_lines all n xs rest r b e p = subst (λ ys. IsBuild all (lines_from n ys) b) e p

pub counted_next : (n : ℕ) (xs rest : List ReadStatement) (r : ReadStatement) (count : ℕ) → xs ≡ r ∷ rest → n + length xs ≡ count → (n + 1) + length rest ≡ count
counted_next n xs rest r count e at = let more : length xs ≡ suc (length rest) = ap length e in omega (arith, more, at)

pub later : (all : List Line) (n : ℕ) (rest : List ReadStatement) (b : Building) → IsBuild all (lines_from (suc n) rest) b → IsBuild all (lines_from (n + 1) rest) b
later all n rest b p = let e : suc n ≡ n + 1 = omega arith in subst (λ k. IsBuild all (lines_from k rest) b) e p

pub all_taken : (all : List Line) (n : ℕ) (xs : List ReadStatement) (b : Building) → xs ≡ [] → IsBuild all (lines_from n xs) b → AreUnits all (map unit_of b.units)
all_taken all n xs b e p = finished all b (subst (λ ys. IsBuild all (lines_from n ys) b) e p)

pub length_next : (xs rest : List ReadStatement) (r : ReadStatement) (old new : ℕ) → xs ≡ r ∷ rest → new + 1 ≡ old → old ≡ length xs → new ≡ length rest
length_next xs rest r old new e step at = let more : length xs ≡ suc (length rest) = ap length e in omega (arith, more, step, at)
