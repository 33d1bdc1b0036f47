use Rattle.std.proofs.Common.{◌≡◌, List, map, subst, OnOk}
use Rattle.expr_tree.specs.Plain.{expr_of, exprs_of}
use Rattle.expr_tree.specs.declared.tree.Expr.{Expr}
use Rattle.names77.specs.Notes.{Note, expr_notes, exprs_notes}
use Rattle.names77.specs.Views.{shown_notes, shown_fact, shown_around}
use Rattle.names77.proofs.NoteLemmas.{exprs_more, grown, substring_grown}
use Rattle.names77.proofs.expression_notes.+expressions.Goals as goal

pub expr_notes-returns-in_ok-bound_notes-in-Substring : goal.expr_notes-returns-in_ok-bound_notes-in-Substring
expr_notes-returns-in_ok-bound_notes-in-Substring t c =
    subst (λ (l : List Note). OnOk c.bound_notes-in-Substring.result (shown_notes c.bound_notes-in-Substring.new.notes ≡ l))
    (substring_grown (shown_around c.args.around) (shown_fact c.args.fact) (shown_fact c.before_substring.result) c.get.result.now c.in-Substring.variable c.args.expr.now
    c.in-Substring.from c.in-Substring.to (shown_notes c.args.notes.now) (shown_notes c.expr_notes.new.notes) (shown_notes c.bound_notes.new.notes)
    c.get.ensures c.in-Substring.is c.before_substring.ensures c.in_ok-expr_notes-in-Substring.ensures c.in_ok-bound_notes-in-Substring.ensures)
    c.bound_notes-in-Substring.ensures

pub exprs_notes-loop-expr-preserved : goal.exprs_notes-loop-expr-preserved
exprs_notes-loop-expr-preserved t c =
    let a = shown_around c.args.around in
    let f = shown_fact c.args.fact in
    grown (λ (xs : List Expr). exprs_notes a f (exprs_of (map expr_of xs))) (λ (x : Expr). expr_notes a f (expr_of x)) (exprs_more a f)
    c.args.exprs.now c.loop-expr.expr-index c.expr-item.result _ _ _ c.expr-item.is c.loop-expr-test.true c.loop-expr.invariant c.in_ok-expr_notes.ensures
