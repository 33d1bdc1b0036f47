use Rattle.std.proofs.Common.{◌≡◌, take}
use Rattle.order77.specs.NameSets.{names_in, with_names}
use Rattle.order77.proofs.names.Names.add_dummies.Given as goal

abbrev pub invariant-loop-dummy : goal.invariant-loop-dummy
invariant-loop-dummy l = names_in l.self ≡ with_names (names_in l.fn.self) (take l.dummy-index l.dummies)
