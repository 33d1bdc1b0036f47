-- The lowest fault of each statement, which is kept while faults come to light.
use Rattle.std.specs.Prelude.{◌≡◌, ◌<◌, nat_lt, ℕ, List, length, fold, slice_get, Option, Some, None, if◌then◌else◌}
use Rattle.std.specs.Option.{option_map}
use Rattle.text_base.specs.Causes.{cause_number}
use Rattle.text_base.specs.declared.refusal.Refusal.{Refusal}
use Rattle.order77.specs.declared.mark.Fault.{Fault}
use Rattle.order77.specs.declared.mark.Stray.{Stray}
use Rattle.order77.specs.Counts.{Reading}
use Rattle.order77.specs.Names.{as_list}
use Rattle.unit77.specs.FileRefusals.{fault_cause, fault_refusal, faults_of, is_lower}

abbrev pub rank : Fault → ℕ
rank f = cause_number (fault_cause f)

-- the first one is kept unless the other is lower
abbrev pub keep_fault : Option Fault → Fault → Option Fault
keep_fault None g = Some g
keep_fault (Some f) g = if nat_lt (rank g) (rank f) then Some g else Some f

abbrev pub lowest_of : List Fault → Option Fault
lowest_of fs = fold keep_fault None fs

-- each statement below a count has a slot with its lowest fault
pub record AreLowest (slots : List (Option Fault)) (count : ℕ) (strays : List Stray) : Type 0 where
  pub counted : length slots ≡ count
  pub lowest : (n : ℕ) → n < count → slice_get slots n ≡ Some (lowest_of (faults_of n strays))

-- the same for refusals
abbrev pub keep_refusal : Option Refusal → Refusal → Option Refusal
keep_refusal None q = Some q
keep_refusal (Some p) q = if is_lower q p then Some q else Some p

-- the refusal of a statement with this lowest fault
abbrev pub refusal_with : List ℕ → Option Fault → Reading → Option Refusal
refusal_with unit slot r = fold keep_refusal (option_map (fault_refusal unit r) slot) (as_list r.refusal)
