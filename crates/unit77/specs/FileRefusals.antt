-- What is refused of the statements of a file: one refusal a statement, the lowest cause of those that apply, among equal ones
-- the first.
use Rattle.std.specs.Prelude.{◌==◌, nat_lt, ℕ, Bool, List, [], ◌∷◌, ◌++◌, map, filter, flat_map, codes, Option, Some, None, if◌then◌else◌}
use Rattle.std.specs.List.{list_any}
use Rattle.std.specs.Fmt.{decimal}
use Rattle.text_base.specs.Causes.{cause_number}
use Rattle.text_base.specs.declared.refusal.Cause.{Cause}
use Rattle.text_base.specs.declared.refusal.Cause.TheVariants as cause
use Rattle.text_base.specs.declared.refusal.Refusal.{Refusal}
use Rattle.order77.specs.declared.mark.Stray.{Stray}
use Rattle.order77.specs.declared.mark.Fault.{Fault}
use Rattle.order77.specs.declared.mark.Fault.TheVariants as fault
use Rattle.order77.specs.Counts.{Reading}
use Rattle.order77.specs.Keywords.{keyword}
use Rattle.order77.specs.Names.{as_list}
use Rattle.order77.specs.Naming.{last_name}
use Rattle.unit77.specs.Units.{file_strays}

abbrev pub fault_cause : Fault → Cause
fault_cause fault.Depth = cause.Unsupported
fault_cause fault.Labels = cause.Unsupported
fault_cause fault.Order = cause.StatementOrder
fault_cause fault.MissingEnd = cause.MissingEnd
fault_cause _ = cause.BadNesting

-- what a refusal shows; `unit` is the name of the last unit
abbrev pub fault_shown : List ℕ → Reading → Fault → List ℕ
fault_shown unit r fault.Depth = codes "DEPTH"
fault_shown unit r fault.Labels = codes "LABELS"
fault_shown unit r (fault.Terminal t) = decimal t
fault_shown unit r fault.MissingEnd = unit
fault_shown unit r _ = flat_map (λ x. x) (map keyword (as_list r.statement))

abbrev pub fault_refusal : List ℕ → Reading → Fault → Refusal
fault_refusal unit r f = record { place = r.place; cause = fault_cause f; name = fault_shown unit r f }

abbrev pub is_lower : Refusal → Refusal → Bool
is_lower p q = nat_lt (cause_number p.cause) (cause_number q.cause)

abbrev pub first_lowest : List Refusal → Option Refusal
first_lowest [] = None
first_lowest (p ∷ ps) = if list_any (λ q. is_lower q p) ps then first_lowest ps else Some p

-- the faults of the statement with this number
abbrev pub faults_of : ℕ → List Stray → List Fault
faults_of n strays = map (λ (s : Stray). s.fault) (filter (λ (s : Stray). s.number == n) strays)

-- all that is refused at a statement: for its faults, and of itself
abbrev pub refusals_at : List ℕ → List Fault → Reading → List Refusal
refusals_at unit faults r = map (fault_refusal unit r) faults ++ as_list r.refusal

-- The refusals of a file, in the order of its statements.
abbrev pub file_refusals : List Reading → List Refusal
file_refusals rs = flat_map (λ (r : Reading). as_list (first_lowest (refusals_at (last_name rs) (faults_of r.number (file_strays rs)) r))) rs
