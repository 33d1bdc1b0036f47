-- Values, and what a place holds.
use Rattle.std.specs.Prelude.{ℕ, ℤ, Bool, List, Option, Some, None}
use Rattle.text_base.specs.declared.operation.Value.{Value as Declared}
use Rattle.text_base.specs.declared.operation.Value.TheVariants as declared
use Rattle.text_base.specs.declared.operation.RunFault.{RunFault}

-- the value of an expression: an integer, a logical, or characters
pub data Value : Type 0 where
  integer : ℤ → Value
  logical : Bool → Value
  string : List ℕ → Value

abbrev pub value_of : Declared → Value
value_of (declared.Integer v) = integer v
value_of (declared.Logical b) = logical b
value_of (declared.Text t) = string t

-- the types of values (X3.9 section 4.1; ISO/IEC 1539:1991 section 4.3)
pub data Kind : Type 0 where
  integers : Kind
  logicals : Kind
  characters : Kind

abbrev pub kind_of : Value → Kind
kind_of (integer v) = integers
kind_of (logical b) = logicals
kind_of (string t) = characters

-- a numeric place: nothing, or one value of one of the two numeric types
pub data Held : Type 0 where
  undefined : Held
  holds_integer : ℤ → Held
  holds_logical : Bool → Held

-- how a numeric place is after it was defined by the value
abbrev pub held : Value → Held
held (integer v) = holds_integer v
held (logical b) = holds_logical b
held (string t) = undefined

-- the integer that a place holds
abbrev pub integer_in : Held → Option Value
integer_in undefined = None
integer_in (holds_integer v) = Some (integer v)
integer_in (holds_logical b) = None

-- Why a run stops at a statement: for a reason that programs may have, or since an expression has a part that has no
-- meaning; no program that is converted has one.
pub data Fault : Type 0 where
  run_fault : RunFault → Fault
  no_meaning : Fault
