use Rattle.std.proofs.Common.{◌≡◌, List, subst, OnOk}
use Rattle.names77.specs.Views.{shown_known, shown_around}
use Rattle.implicit_types.specs.Findings.{Finding}
use Rattle.implicit_types.specs.Views.{shown_findings}
use Rattle.implicit_types.proofs.FindingLemmas.{substring_found}
use Rattle.implicit_types.proofs.expression_findings.+expressions.Goals as goal

pub expr_findings-returns-in_ok-bound_findings-in-Substring : goal.expr_findings-returns-in_ok-bound_findings-in-Substring
expr_findings-returns-in_ok-bound_findings-in-Substring t c =
    subst (λ (l : List Finding). OnOk c.bound_findings-in-Substring.result (shown_findings c.bound_findings-in-Substring.new.findings ≡ l))
    (substring_found (shown_known c.args.known.now) (shown_around c.args.around) c.args.standing.whole c.args.standing.is_place c.args.expr.now c.in-Substring.variable c.get-variable.result.now c.in-Substring.from c.in-Substring.to
    (shown_findings c.args.findings.now) (shown_findings c.substring_findings.new.findings) (shown_findings c.expr_findings.new.findings) (shown_findings c.bound_findings.new.findings)
    c.in-Substring.is c.get-variable.ensures c.in_ok-substring_findings-in-Substring.ensures c.in_ok-expr_findings-in-Substring.ensures c.in_ok-bound_findings-in-Substring.ensures)
    c.bound_findings-in-Substring.ensures
