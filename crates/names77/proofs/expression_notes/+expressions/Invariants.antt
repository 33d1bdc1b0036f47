use Rattle.std.proofs.Common.{◌≡◌, ◌++◌, map, take}
use Rattle.expr_tree.specs.Plain.{expr_of, exprs_of}
use Rattle.names77.specs.Notes.{exprs_notes}
use Rattle.names77.specs.Views.{shown_notes, shown_fact, shown_around}
use Rattle.names77.proofs.expression_notes.+expressions.Given as goal

abbrev pub invariant-exprs_notes-loop-expr : goal.invariant-exprs_notes-loop-expr
invariant-exprs_notes-loop-expr l =
    shown_notes l.notes ≡ shown_notes l.fn.notes ++ exprs_notes (shown_around l.around) (shown_fact l.fact) (exprs_of (map expr_of (take l.expr-index l.exprs)))
