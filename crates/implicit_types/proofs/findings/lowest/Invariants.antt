use Rattle.std.proofs.Common.{◌≡◌, None, fold, take, map}
use Rattle.std.specs.Option.{option_map}
use Rattle.implicit_types.specs.Findings.{better}
use Rattle.implicit_types.specs.Views.{shown_finding}
use Rattle.implicit_types.proofs.findings.lowest.Given as goal

abbrev pub invariant-loop-finding : goal.invariant-loop-finding
invariant-loop-finding l = option_map shown_finding l.kept ≡ fold better None (map shown_finding (take l.finding-index l.findings))
