use Rattle.std.proofs.Common.{◌≡◌, ◌++◌, map, flat_map, take, true, false}
use Rattle.expr_tree.specs.Plain.{expr_of}
use Rattle.names77.specs.Notes.{elsewhere}
use Rattle.names77.specs.Views.{shown_known}
use Rattle.implicit_types.specs.PartFindings.{expr_findings}
use Rattle.implicit_types.specs.Views.{shown_findings}
use Rattle.implicit_types.proofs.statement_findings.actual_findings.Given as goal

abbrev pub invariant-loop-expr : goal.invariant-loop-expr
invariant-loop-expr l =
    (shown_findings l.findings ≡ shown_findings l.fn.findings ++ flat_map (expr_findings (shown_known l.known) elsewhere true false) (map expr_of (take l.expr-index l.actuals)))
    × (l.actual.whole ≡ true) × (l.actual.is_place ≡ false)
