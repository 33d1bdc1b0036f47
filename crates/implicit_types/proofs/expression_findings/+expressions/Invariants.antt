use Rattle.std.proofs.Common.{◌≡◌, ◌++◌, false, flat_map, take}
use Rattle.expr_tree.specs.Plain.{expr_of}
use Rattle.names77.specs.Views.{shown_known, shown_around}
use Rattle.implicit_types.specs.PartFindings.{expr_findings}
use Rattle.implicit_types.specs.Views.{shown_findings}
use Rattle.implicit_types.proofs.expression_findings.+expressions.Given as goal

abbrev pub invariant-exprs_findings-loop-expr : goal.invariant-exprs_findings-loop-expr
invariant-exprs_findings-loop-expr l =
    shown_findings l.findings ≡ shown_findings l.fn.findings ++ flat_map (λ e. expr_findings (shown_known l.known) (shown_around l.around) l.whole false (expr_of e)) (take l.expr-index l.exprs)
