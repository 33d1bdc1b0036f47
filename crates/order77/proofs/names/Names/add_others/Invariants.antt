use Rattle.std.proofs.Common.{◌≡◌, not, filter, take}
use Rattle.order77.specs.Names.{is_among}
use Rattle.order77.specs.NameSets.{lent, names_in, with_names}
use Rattle.order77.proofs.names.Names.add_others.Given as goal

abbrev pub invariant-loop-name : goal.invariant-loop-name
invariant-loop-name l = names_in l.self ≡ with_names (names_in l.fn.self) (filter (λ y. not (is_among (names_in l.fn.held) y)) (lent (take l.name-index l.names)))
