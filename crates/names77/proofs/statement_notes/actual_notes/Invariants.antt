use Rattle.std.proofs.Common.{◌≡◌, ◌++◌, map, take}
use Rattle.std.specs.Prelude.{flat_map}
use Rattle.expr_tree.specs.Plain.{expr_of}
use Rattle.names77.specs.Notes.{elsewhere, given, expr_notes}
use Rattle.names77.specs.Views.{shown_notes}
use Rattle.names77.proofs.statement_notes.actual_notes.Given as goal

abbrev pub invariant-loop-actual : goal.invariant-loop-actual
invariant-loop-actual l = shown_notes l.notes ≡ shown_notes l.fn.notes ++ flat_map (expr_notes elsewhere given) (map expr_of (take l.actual-index l.actuals))
