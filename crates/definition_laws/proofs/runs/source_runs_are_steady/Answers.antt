use Rattle.std.proofs.Common.{sym, ap, ◌∙◌, subst, ◌+◌}
use Rattle.std.specs.Prelude.{slice_get}
use Rattle.program77.specs.Layout.{layout_of}
use Rattle.program77.specs.Meaning.{run_main}
use Rattle.definition_laws.specs.CommentPlaces.{code_marks, how_many}
use Rattle.definition_laws.specs.Running.{IsOver}
use Rattle.definition_laws.proofs.Budgets.{source_one, source_begins, source_ends}
use Rattle.definition_laws.proofs.Stepping.{source_order}
use Rattle.definition_laws.proofs.runs.source_runs_are_steady.Goals as goal

pub returns-clause-one : goal.returns-clause-one
returns-clause-one c p = source_one (layout_of p) (slice_get p.units 0)

pub returns-clause-begin : goal.returns-clause-begin
returns-clause-begin c p main at = ap (λ o. run_main (layout_of p) o 0) at ∙ source_begins (layout_of p) main

pub returns-clause-end : goal.returns-clause-end
returns-clause-end c p main at = subst (λ o. IsOver (run_main (layout_of p) o (how_many (code_marks main.code)))) (sym at) (source_ends (layout_of p) main)

pub returns-clause-order : goal.returns-clause-order
returns-clause-order c p main n w at e =
    ap (λ o. run_main (layout_of p) o (n + 1)) at ∙ source_order (layout_of p) main n w (sym (ap (λ o. run_main (layout_of p) o n) at) ∙ e)
