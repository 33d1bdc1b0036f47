use Rattle.std.proofs.Common.{◌≡◌, ◌++◌, flat_map, take}
use Rattle.names77.specs.Views.{shown_known}
use Rattle.implicit_types.specs.Views.{shown_findings}
use Rattle.implicit_types.proofs.statement_findings.check_all.Given as goal

abbrev pub invariant-loop-part : goal.invariant-loop-part
invariant-loop-part g l = shown_findings l.findings ≡ shown_findings l.fn.findings ++ flat_map (λ part. g.T.Checked.found_at part (shown_known l.known)) (take l.part-index l.parts)
