use Rattle.std.proofs.Common.{◌≡◌, take}
use Rattle.project_set.specs.MapText.{lines_text}
use Rattle.project_set.proofs.map.map_of.Given as goal

abbrev pub invariant-loop-variable : goal.invariant-loop-variable
invariant-loop-variable l = l.out ≡ lines_text l.unit (take l.variable-index l.variables)
