-- The number that each status ends the program with.
use Rattle.std.specs.Prelude.{ℕ}
use Rattle.command.specs.declared.status.Status.{Status}
use Rattle.command.specs.declared.status.Status.TheVariants.{Done, Refused, Usage, ReadFault, Missing, WriteFault, Memory}

abbrev pub code_of : Status → ℕ
code_of Done = 0
code_of Refused = 1
code_of Usage = 2
code_of ReadFault = 3
code_of Missing = 4
code_of WriteFault = 6
code_of Memory = 7
