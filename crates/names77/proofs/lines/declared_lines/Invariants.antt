use Rattle.std.proofs.Common.{◌≡◌, map, take}
use Rattle.unit77.specs.UnitViews.{declared_line}
use Rattle.names77.specs.Views.{shown_lines}
use Rattle.names77.proofs.lines.declared_lines.Given as goal

abbrev pub invariant-loop-line : goal.invariant-loop-line
invariant-loop-line l = shown_lines l.lines ≡ map declared_line (take l.line-index l.declared)
