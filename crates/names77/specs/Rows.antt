-- What a unit says of each of its names.
use Rattle.std.specs.Prelude.{ℕ, Bool, true, false, ◌||◌, List, Option, Some, None, is_some, if◌then◌else◌}
use Rattle.std.specs.Option.{option_or}
use Rattle.std.specs.Str.{bytes_eq}
use Rattle.text_base.specs.Trees.{Expr}
use Rattle.tree77.specs.Statements.{Dimension}
use Rattle.names77.specs.declared.role.Allowed.{Allowed}
use Rattle.names77.specs.declared.role.Allowed.TheVariants.{Anything}
use Rattle.names77.specs.Grouped.{Grouped}
use Rattle.names77.specs.Grouped as g
use Rattle.names77.specs.Notes.{NameType, Fact, typed, shaped, result, dummy, common, external, intrinsic, constant, function, parameter, Note}
use Rattle.names77.specs.Roles.{agree, narrowed, allowed_by}

-- all that is said of one name
pub record Row : Type 0 where
  pub typed : Option NameType
  pub shape : Option (List Dimension)
  -- the value of a constant, and the dummies of a statement function
  pub value : Option Expr
  pub dummies : Option (List (List ℕ))
  -- it is the unit's own function, one of the unit's dummies, or stands in COMMON, EXTERNAL or INTRINSIC
  pub is_result : Bool
  pub is_dummy : Bool
  pub is_common : Bool
  pub is_external : Bool
  pub is_intrinsic : Bool
  -- its type is given behind its PARAMETER
  pub is_late : Bool
  -- it stands elsewhere than as a dummy of a statement function
  pub stands : Bool
  -- what it may be by what is said of it alone
  pub allowed : Allowed

abbrev pub blank : Row
blank = record { typed = None; shape = None; value = None; dummies = None; is_result = false; is_dummy = false; is_common = false; is_external = false; is_intrinsic = false; is_late = false; stands = false; allowed = Anything }

-- the row with one more fact; where two facts are of one kind, the first counts
abbrev pub taken : Row → Fact → Row
taken r (typed t) = record r { typed = option_or r.typed (Some t); is_late = r.is_late || is_some r.value }
taken r (shaped ds) = record r { shape = option_or r.shape (Some ds) }
taken r (constant e) = record r { value = option_or r.value (Some e) }
taken r (function ds) = record r { dummies = option_or r.dummies (Some ds) }
taken r result = record r { is_result = true }
taken r dummy = record r { is_dummy = true }
taken r common = record r { is_common = true }
taken r external = record r { is_external = true }
taken r intrinsic = record r { is_intrinsic = true }
taken r _ = r

-- a name stands elsewhere than as a dummy of a statement function
abbrev pub is_standing : Fact → Bool
is_standing (parameter refused) = false
is_standing _ = true

-- a fact that doesn't agree with what the name may be counts for nothing
abbrev pub with_fact : Row → Fact → Row
with_fact r f =
    if agree r.allowed (allowed_by f)
    then record (taken r f) { allowed = narrowed r.allowed (allowed_by f); stands = r.stands || is_standing f }
    else r

-- one row for each name in the order of first appearance
abbrev pub Table : Type 0
Table = Grouped (List ℕ) Row

-- ---- one name in the whole unit

abbrev pub rows_of : List Note → Table
rows_of notes = g.rows_of bytes_eq with_fact blank notes

-- ---- a table that grows by one note after another

abbrev pub row_in : Table → List ℕ → Row
row_in t x = g.look_up_or bytes_eq blank t x

abbrev pub has_name : Table → List ℕ → Bool
has_name t x = g.has_key bytes_eq t x

abbrev pub with_note : Table → Note → Table
with_note t n = g.with_note bytes_eq with_fact blank t n

abbrev pub with_notes : Table → List Note → Table
with_notes t notes = g.with_notes bytes_eq with_fact blank t notes
