use Rattle.std.proofs.Common.{◌≡◌, ◌-◌, ◌++◌, length, take}
use Rattle.std.specs.Prelude.{replicate}
use Rattle.names77.proofs.constants.fitted.Given as goal

abbrev pub invariant-loop : goal.invariant-loop
invariant-loop l = l.text ≡ take l.count l.fn.text ++ replicate (l.counter - length (take l.count l.fn.text)) 32
