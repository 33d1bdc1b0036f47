use Rattle.std.proofs.Common.{◌≡◌, ◌++◌, map, flat_map, take}
use Rattle.tree77.specs.StatementPlain.{implicit_of}
use Rattle.names77.specs.Types.{implicit_initials}
use Rattle.names77.specs.Views.{shown_initials}
use Rattle.names77.proofs.types.implicits_initials.Given as goal

abbrev pub invariant-loop-implicit : goal.invariant-loop-implicit
invariant-loop-implicit l = shown_initials l.found ≡ shown_initials l.fn.found ++ flat_map implicit_initials (map implicit_of (take l.implicit-index l.implicits))
