use Rattle.std.proofs.Common.{◌≡◌, map, take}
use Rattle.tree77.specs.StatementPlain.{dimension_of}
use Rattle.implicit_types.specs.PartFindings.{has_no_end}
use Rattle.implicit_types.proofs.items.has_no_end.Given as goal

abbrev pub invariant-loop-dimension : goal.invariant-loop-dimension
invariant-loop-dimension l = l.has_no_end ≡ has_no_end (map dimension_of (take l.dimension-index l.dimensions))
