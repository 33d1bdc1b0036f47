use Rattle.std.proofs.Common.{◌≡◌, ◌++◌, flat_map, take}
use Rattle.order77.specs.NameSets.{lent}
use Rattle.order77.proofs.uses.all_uses.Given as goal

abbrev pub invariant-loop-part : goal.invariant-loop-part
invariant-loop-part g l = lent l.found ≡ lent l.fn.found ++ flat_map g.T.Uses.names_used (take l.part-index l.parts)
