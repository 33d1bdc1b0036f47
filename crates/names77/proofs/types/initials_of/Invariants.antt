use Rattle.std.proofs.Common.{◌≡◌, map, flat_map, take}
use Rattle.names77.specs.Types.{line_initials}
use Rattle.names77.specs.Views.{shown_initials, shown_line}
use Rattle.names77.proofs.types.initials_of.Given as goal

abbrev pub invariant-loop-line : goal.invariant-loop-line
invariant-loop-line l = shown_initials l.initials ≡ flat_map line_initials (map shown_line (take l.line-index l.lines))
