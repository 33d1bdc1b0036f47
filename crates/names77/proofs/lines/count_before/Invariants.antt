use Rattle.std.proofs.Common.{◌≡◌, ◌++◌, take, drop}
use Rattle.names77.specs.Text.{first_lines, other_lines}
use Rattle.names77.specs.Views.{shown_lines}
use Rattle.names77.proofs.lines.count_before.Given as goal

abbrev pub invariant-loop-line : goal.invariant-loop-line
invariant-loop-line l =
    (first_lines l.number (shown_lines l.lines) ≡ shown_lines (take l.line-index l.lines) ++ first_lines l.number (shown_lines (drop l.line-index l.lines)))
    × (other_lines l.number (shown_lines l.lines) ≡ other_lines l.number (shown_lines (drop l.line-index l.lines)))
    × (l.count ≡ l.line-index)
