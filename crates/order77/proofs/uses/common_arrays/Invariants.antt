use Rattle.std.proofs.Common.{◌≡◌, ◌++◌, map, flat_map, take}
use Rattle.tree77.specs.Statements.{Block}
use Rattle.tree77.specs.StatementPlain.{block_of}
use Rattle.order77.specs.Names.{arrays_among}
use Rattle.order77.specs.NameSets.{lent}
use Rattle.order77.proofs.uses.common_arrays.Given as goal

abbrev pub invariant-loop-block : goal.invariant-loop-block
invariant-loop-block l = lent l.found ≡ lent l.fn.found ++ flat_map (λ (b : Block). arrays_among b.members) (map block_of (take l.block-index l.blocks))
