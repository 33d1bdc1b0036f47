use Rattle.std.proofs.Common.{◌≡◌, [], map, fold, take}
use Rattle.names77.specs.Constants.{with_line}
use Rattle.names77.specs.Views.{shown_table, shown_initial, shown_initials, shown_line, shown_constants}
use Rattle.names77.proofs.constants.constants_of.Given as goal

abbrev pub invariant-loop-line : goal.invariant-loop-line
invariant-loop-line l =
    record { initials = shown_initials l.initials; constants = shown_constants l.constants }
    ≡ fold (with_line (shown_table l.table) (map shown_initial l.all_initials)) (record { initials = []; constants = [] }) (map shown_line (take l.line-index l.lines))
