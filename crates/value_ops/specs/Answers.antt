-- What the functions of this crate answer, in the words of the table of operations.
use Rattle.std.specs.Prelude.{◌≡◌, ℤ, pos, negsuc, zero, suc, Bool, true, false, Result, Ok, Err, if◌then◌else◌}
use Rattle.text_base.specs.declared.operation.Op.{Op}
use Rattle.text_base.specs.declared.operation.Op.TheVariants as op
use Rattle.text_base.specs.declared.operation.RunFault.{RunFault}
use Rattle.text_base.specs.declared.operation.RunFault.TheVariants.{ZeroDivide}
use Rattle.text_base.specs.Values.{integer, string}
use Rattle.text_base.specs.Operations.{Computed, computes, faults}
use Rattle.value_ops.specs.declared.error.OpError.{OpError}
use Rattle.value_ops.specs.declared.error.OpError.TheVariants.{Fault, Memory}
use Rattle.value_ops.specs.declared.integer.BinaryInt.{BinaryInt}
use Rattle.value_ops.specs.declared.integer.BinaryInt.TheVariants as int_op
use Rattle.value_ops.specs.declared.logical.BinaryLog.{BinaryLog}
use Rattle.value_ops.specs.declared.logical.BinaryLog.TheVariants as log_op

-- the operation of the table that an operator between two integers is
abbrev pub integer_op : BinaryInt → Op
integer_op int_op.Power = op.Power
integer_op int_op.Times = op.Times
integer_op int_op.Over = op.Over
integer_op int_op.Plus = op.Plus
integer_op int_op.Minus = op.Minus

-- the operation of the table that an operator between two logicals is
abbrev pub logical_op : BinaryLog → Op
logical_op log_op.And = op.And
logical_op log_op.Or = op.Or
logical_op log_op.Eqv = op.Eqv
logical_op log_op.Neqv = op.Neqv

-- an integer or a fault, as the table has it
abbrev pub answered : Result ℤ RunFault → Computed
answered (Ok z) = computes (integer z)
answered (Err fault) = faults fault

-- 1 divided by a power, truncated: the base, and whether the exponent, which is above 0, is even
abbrev pub reciprocal : ℤ → Bool → Computed
reciprocal (pos zero) is_even = faults ZeroDivide
reciprocal (pos (suc zero)) is_even = computes (integer (pos 1))
reciprocal (negsuc zero) is_even = computes (integer (if is_even then pos 1 else negsuc 0))
reciprocal _ is_even = computes (integer (pos 0))

-- memory is taken for the characters that an operation gives, and for nothing else
abbrev pub takes_memory : Computed → Bool
takes_memory (computes (string t)) = true
takes_memory _ = false

-- the fault that the table has, or want of memory where it has characters
abbrev pub IsFaultOf : Computed → OpError → Type 0
IsFaultOf given (Fault fault) = given ≡ faults fault
IsFaultOf given Memory = takes_memory given ≡ true
