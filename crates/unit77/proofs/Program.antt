-- Nothing is refused of a file exactly where its statements are the units of some program.
use Rattle.std.proofs.Common.{◌≡◌, ℕ, Bool, true, false, ◌==◌, List, [], ◌∷◌, map, Option, Some, None, refl, sym, ap, ◌∙◌, subst, eq-eqb}
use Rattle.std.specs.Prelude.{if◌then◌else◌, flat_map}
use Rattle.std.specs.List.{list_any, filter}
use Rattle.tree77.specs.Statements.{Statement}
use Rattle.text_base.specs.declared.refusal.Refusal.{Refusal}
use Rattle.order77.specs.declared.mark.Stray.{Stray}
use Rattle.unit77.specs.Tree.{Line}
use Rattle.order77.specs.Names.{as_list}
use Rattle.order77.specs.Counts.{Reading}
use Rattle.unit77.specs.Units.{file_strays}
use Rattle.order77.specs.Naming.{last_name}
use Rattle.unit77.specs.FileRefusals.{fault_refusal, is_lower, first_lowest, faults_of, refusals_at, file_refusals}
use Rattle.unit77.specs.Programs.{reading_of, ProgramUnit}
use Rattle.unit77.specs.Laws.{AreReadOrRefused, IsProgram, ProgramOrNot}
use Rattle.unit77.proofs.Places.{both_empty}
use Rattle.unit77.proofs.Numbered.{Each, Strays, of_file}
use Rattle.unit77.proofs.UnitLaw.{units_pass, units_found}

-- ---- one statement

no_first : (ps : List Refusal) → as_list (first_lowest ps) ≡ [] → ps ≡ []
no_first [] e = refl
no_first (p ∷ ps) e = absurd (go ps (list_any (λ q. is_lower q p) ps) refl (no_first ps) e)
  where
    go : (ps : List Refusal) (b : Bool) → list_any (λ q. is_lower q p) ps ≡ b → (as_list (first_lowest ps) ≡ [] → ps ≡ []) → as_list (if b then first_lowest ps else Some p) ≡ [] → ⊥
    go ps false is rec e = cc
    go [] true is rec e = cc
    go (q ∷ ps) true is rec e = let none = rec e in cc

no_map : {A B : Type 0} (f : A → B) (xs : List A) → map f xs ≡ [] → xs ≡ []
no_map f [] e = refl
no_map f (x ∷ xs) e = absurd cc

no_option : {A : Type 0} (o : Option A) → as_list o ≡ [] → o ≡ None
no_option None e = refl
no_option (Some x) e = absurd cc

-- the refusal of a statement for these faults of all
abbrev refusal_at : List ℕ → List Stray → Reading → List Refusal
refusal_at unit all r = as_list (first_lowest (refusals_at unit (faults_of r.number all) r))

abbrev IsClear : List Stray → Reading → Type 0
IsClear all r = (faults_of r.number all ≡ []) × (r.refusal ≡ None)

clear : (unit : List ℕ) (all : List Stray) (rs : List Reading) → flat_map (refusal_at unit all) rs ≡ [] → Each (IsClear all) rs
clear unit all [] e = tt
clear unit all (r ∷ rs) e =
    let parts = both_empty (refusal_at unit all r) (flat_map (refusal_at unit all) rs) e in
    let own = both_empty (map (fault_refusal unit r) (faults_of r.number all)) (as_list r.refusal) (no_first _ parts.0) in
    ((no_map (fault_refusal unit r) _ own.0, no_option r.refusal own.1), clear unit all rs parts.1)

no_refusal : (unit : List ℕ) (ls : List Line) → flat_map (refusal_at unit []) (map reading_of ls) ≡ []
no_refusal unit [] = refl
no_refusal unit (l ∷ ls) = no_refusal unit ls

-- ---- all statements

-- what is refused of no statement isn't refused
none_left : (all : List Stray) → Strays (λ n. faults_of n all ≡ []) all → all ≡ []
none_left [] clear = refl
none_left (x ∷ all) clear = absurd (go (x.number == x.number) (eq-eqb x.number x.number refl) clear.0)
  where
    go : (b : Bool) → b ≡ true → map (λ (y : Stray). y.fault) (if b then x ∷ filter (λ (y : Stray). y.number == x.number) all else filter (λ (y : Stray). y.number == x.number) all) ≡ [] → ⊥
    go true is e = cc
    go false is e = cc

numbers_clear : (all : List Stray) (rs : List Reading) → Each (IsClear all) rs → Each (λ (r : Reading). faults_of r.number all ≡ []) rs
numbers_clear all [] each = tt
numbers_clear all (r ∷ rs) each = (each.0.0, numbers_clear all rs each.1)

abbrev reading : Reading → Option Statement → Option Refusal → Reading
reading r x p = record { number = r.number; label = r.label; place = r.place; statement = x; refusal = p }

lines_read : (all : List Stray) (rs : List Reading) → AreReadOrRefused rs → Each (IsClear all) rs → (ls : List Line) × (map reading_of ls ≡ rs)
lines_read all [] read each = ([], refl)
lines_read all (r ∷ rs) read each = go r.statement refl (lines_read all rs read.1 each.1)
  where
    go : (x : Option Statement) → r.statement ≡ x → (ls : List Line) × (map reading_of ls ≡ rs) → (ls : List Line) × (map reading_of ls ≡ r ∷ rs)
    go None is further = absurd (read.0 is each.0.1)
    go (Some x) is further = (
      record { number = r.number; label = r.label; place = r.place; statement = x } ∷ further.0,
      ap (λ ys. reading r (Some x) None ∷ ys) further.1 ∙ ap (λ y. reading r y None ∷ rs) (sym is) ∙ ap (λ p. reading r r.statement p ∷ rs) (sym each.0.1),
    )

-- ---- the law

pub program_of : (rs : List Reading) → AreReadOrRefused rs → file_refusals rs ≡ [] → (us : List ProgramUnit) × IsProgram rs us
program_of rs read none =
    let each = clear (last_name rs) (file_strays rs) rs none in
    let lines = lines_read (file_strays rs) rs read each in
    let no_strays = none_left (file_strays rs) (of_file (λ n. faults_of n (file_strays rs) ≡ []) rs (numbers_clear (file_strays rs) rs each)) in
    let units = units_found lines.0 0 (ap file_strays lines.1 ∙ no_strays) in
    (units.0, record { lines = lines.0; read = lines.1; units = units.1 })

pub program_or_not : ProgramOrNot
program_or_not rs numbered read = (
  program_of rs read,
  (λ p. subst (λ x. file_refusals x ≡ []) p.1.read (
      ap (λ all. flat_map (refusal_at (last_name (map reading_of p.1.lines)) all) (map reading_of p.1.lines)) (units_pass p.1.lines p.0 0 p.1.units)
      ∙ no_refusal (last_name (map reading_of p.1.lines)) p.1.lines)),
)
