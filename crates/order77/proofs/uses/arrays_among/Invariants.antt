use Rattle.std.proofs.Common.{◌≡◌, ◌++◌, map, take}
use Rattle.tree77.specs.StatementPlain.{declarator_of}
use Rattle.order77.specs.Names.{arrays_among}
use Rattle.order77.specs.NameSets.{lent}
use Rattle.order77.proofs.uses.arrays_among.Given as goal

abbrev pub invariant-loop-declarator : goal.invariant-loop-declarator
invariant-loop-declarator l = lent l.found ≡ lent l.fn.found ++ arrays_among (map declarator_of (take l.declarator-index l.declarators))
