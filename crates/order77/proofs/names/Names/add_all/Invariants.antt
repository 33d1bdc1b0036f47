use Rattle.std.proofs.Common.{◌≡◌, take}
use Rattle.order77.specs.NameSets.{lent, names_in, with_names}
use Rattle.order77.proofs.names.Names.add_all.Given as goal

abbrev pub invariant-loop-name : goal.invariant-loop-name
invariant-loop-name l = names_in l.self ≡ with_names (names_in l.fn.self) (lent (take l.name-index l.names))
