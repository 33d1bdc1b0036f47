-- The units of a file (X3.9 section 2.4), and which of its statements are refused for their order, their nesting or their unit.
use Rattle.std.specs.Prelude.{not, ◌||◌, ◌==◌, nat_le, nat_lt, ℕ, Bool, true, false, List, [], ◌∷◌, ◌++◌, length, map, filter, flat_map, fold, Option, Some, None, if◌then◌else◌}
use Rattle.std.specs.List.{list_any}
use Rattle.unit77.specs.declared.limits.TheConstants.{MOST_NESTED, MOST_LABELS}
use Rattle.order77.specs.declared.mark.Sort.{Sort}
use Rattle.order77.specs.declared.mark.Sort.TheVariants.{Leaving, Do, If}
use Rattle.order77.specs.declared.mark.Mark.{Mark}
use Rattle.order77.specs.declared.mark.Stray.{Stray}
use Rattle.order77.specs.declared.mark.Fault.{Fault}
use Rattle.order77.specs.declared.mark.Fault.TheVariants as fault
use Rattle.order77.specs.Counts.{Reading, counts_as, is_first, is_misplaced, sort_in, is_end}
use Rattle.order77.specs.Names.{is_among, jumps, uses, constants, within}
use Rattle.unit77.specs.Refusals.{next, lacking, shown, loops, at_end}

-- ---- what stands before a statement in its unit

abbrev pub mark_as : Reading → Sort → Mark
mark_as r k = record { number = r.number; label = r.label; sort = k }

abbrev pub open_behind : Option Sort → List Mark → Reading → List Mark
open_behind None hs r = hs
open_behind (Some k) hs r = next hs (mark_as r k)

-- the DOs and arms that are open behind some statements
abbrev pub open_after : List Reading → List Mark
open_after before = fold (λ hs r. open_behind (sort_in (counts_as r)) hs r) [] before

-- the names whose values they use, and the labels that their jumps name
abbrev pub uses_among : List Reading → List (List ℕ)
uses_among before = flat_map (within uses) before

abbrev pub jumps_among : List Reading → List ℕ
jumps_among before = flat_map (within jumps) before

-- ---- what is refused at a statement

abbrev pub stray : Reading → Fault → Stray
stray r f = record { number = r.number; fault = f }

abbrev pub strays_where : Bool → Stray → List Stray
strays_where b s = if b then s ∷ [] else []

-- a PARAMETER stands before the statements that use its constants (X3.9 section 8.6)
abbrev pub is_late : List (List ℕ) → Reading → Bool
is_late used r = list_any (is_among used) (within constants r)

abbrev pub begins : Sort → Bool
begins (Do t) = true
begins If = true
begins _ = false

-- it begins a construct, and more are open behind it than may be
abbrev pub is_deep : List Mark → Mark → Bool
is_deep hs m = if begins m.sort then nat_lt MOST_NESTED (length (next hs m)) else false

abbrev pub mark_strays : List Mark → Mark → List Stray
mark_strays hs m = shown hs m ++ strays_where (is_deep hs m) (record { number = m.number; fault = fault.Depth })

abbrev pub nesting_strays : Option Sort → List Mark → Reading → List Stray
nesting_strays None hs r = []
nesting_strays (Some k) hs r = mark_strays hs (mark_as r k)

-- it stands where it may not stand
abbrev pub is_out_of_order : List Reading → Reading → Bool
is_out_of_order before r = is_misplaced before (counts_as r) || is_late (uses_among before) r

abbrev pub strays_at : List Reading → Reading → List Stray
strays_at before r = strays_where (is_out_of_order before r) (stray r fault.Order) ++ nesting_strays (sort_in (counts_as r)) (open_after before) r

-- ---- what is refused at END, and where a unit has none

-- each once
abbrev pub different : List ℕ → List ℕ
different [] = []
different (x ∷ xs) = x ∷ filter (λ y. not (y == x)) (different xs)

abbrev pub end_strays : List Reading → Reading → List Stray
end_strays before e =
    at_end (open_after before) (mark_as e Leaving) ++ strays_where (not (nat_le (length (different (jumps_among before))) MOST_LABELS)) (stray e fault.Labels)

-- behind the last statement of a file, which has this number
abbrev pub missing : List Reading → ℕ → List Stray
missing before n = if is_first before then [] else map lacking (loops (open_after before)) ++ record { number = n; fault = fault.MissingEnd } ∷ []

-- ---- all

-- what is refused of the statements of a file, behind those of a unit so far, of which the last has this number, as it comes to
-- light
abbrev pub strays_behind : List Reading → ℕ → List Reading → List Stray
strays_behind before n [] = missing before n
strays_behind before n (r ∷ rs) =
    if is_end (counts_as r) then end_strays before r ++ strays_behind [] r.number rs
    else strays_at before r ++ strays_behind (before ++ r ∷ []) r.number rs

abbrev pub file_strays : List Reading → List Stray
file_strays rs = strays_behind [] 0 rs
