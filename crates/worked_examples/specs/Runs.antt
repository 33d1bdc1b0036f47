-- How the programs run.
use Rattle.std.specs.Prelude.{ℕ, pos, List, [], ◌∷◌, codes, None}
use Rattle.text_base.specs.Values.{Held, holds_integer, run_fault}
use Rattle.text_base.specs.declared.operation.RunFault.{RunFault}
use Rattle.text_base.specs.Runs.{Final, going, ended, fault}
use Rattle.program77.specs.Meaning.{Store}
use Rattle.tree90.specs.Meaning.{Object, Objects, integers}
use Rattle.worked_examples.specs.Read.{at_line}

-- a place that holds a number
abbrev pub value : ℕ → Held
value n = holds_integer (pos n)

-- the store of a program that has numbers alone
abbrev pub store : List Held → Store
store places = record { numbers = places; texts = [] }

-- the run goes on, has ended by STOP or END without a code, or has faulted at a line
abbrev pub goes_on : List Held → Final Store
goes_on places = going (store places)

abbrev pub has_ended : List Held → Final Store
has_ended places = ended (store places) None

abbrev pub has_faulted : ℕ → RunFault → Final Store
has_faulted line why = fault (at_line line) (run_fault why)

-- an object of the program T, with its value
abbrev pub object : List ℕ → ℕ → Object
object x n = record { home = codes "T"; name = x; cells = integers (pos n ∷ []) }

-- the objects I, J and M1 of the program T, with their values
abbrev pub three : ℕ → ℕ → ℕ → Objects
three i j m1 = object (codes "I") i ∷ object (codes "J") j ∷ object (codes "M1") m1 ∷ []
