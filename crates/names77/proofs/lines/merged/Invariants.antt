use Rattle.std.proofs.Common.{◌≡◌, ◌≤◌, ◌++◌, length, drop}
use Rattle.names77.specs.Text.{merged}
use Rattle.names77.specs.Views.{shown_lines}
use Rattle.names77.proofs.lines.merged.Given as goal

abbrev pub invariant-loop-line : goal.invariant-loop-line
invariant-loop-line l =
    (shown_lines l.lines ++ merged (shown_lines (drop l.taken l.first)) (shown_lines (drop l.line-index l.second)) ≡ merged (shown_lines l.first) (shown_lines l.second))
    × (l.taken ≤ length l.first)
