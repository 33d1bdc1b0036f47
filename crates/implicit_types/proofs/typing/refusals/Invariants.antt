use Rattle.std.proofs.Common.{◌≡◌, fold, map, take}
use Rattle.names77.specs.Views.{shown_known, shown_lines}
use Rattle.implicit_types.specs.Findings.{along}
use Rattle.implicit_types.specs.NameFindings.{nothing, with_line}
use Rattle.implicit_types.specs.Typing.{line_refusals}
use Rattle.implicit_types.specs.Views.{shown_before, shown_refusal}
use Rattle.implicit_types.proofs.typing.refusals.Given as goal

abbrev pub invariant-loop-line : goal.invariant-loop-line
invariant-loop-line l =
    (map shown_refusal l.refusals ≡ along (with_line (shown_known l.known)) (line_refusals (shown_known l.known)) nothing (shown_lines (take l.line-index l.lines)))
    × (shown_before l.before ≡ fold (with_line (shown_known l.known)) nothing (shown_lines (take l.line-index l.lines)))
