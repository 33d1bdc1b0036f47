use Rattle.std.proofs.Common.{◌≡◌, map, take}
use Rattle.unit77.specs.UnitViews.{function_line}
use Rattle.names77.specs.Views.{shown_lines}
use Rattle.names77.proofs.lines.function_lines.Given as goal

abbrev pub invariant-loop-function : goal.invariant-loop-function
invariant-loop-function l = shown_lines l.lines ≡ map function_line (take l.function-index l.functions)
