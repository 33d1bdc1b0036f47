-- What is wrong with a line, as the pair of the definitions.
use Rattle.std.specs.Prelude.{decimal, Option, Some, None, Result, Ok, Err}
use Rattle.text_base.specs.LineRefusals as refusals
use Rattle.card_reader.specs.declared.fault.Fault.{Fault}

-- what a fault names is a number
abbrev pub fault_of : Fault → refusals.Fault
fault_of fault = (fault.cause, decimal fault.number)

-- the fault that is answered, if there is one
abbrev pub fault_in : {A : Type 0} → Result A Fault → Option refusals.Fault
fault_in (Ok a) = None
fault_in (Err fault) = Some (fault_of fault)
