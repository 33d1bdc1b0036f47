use Rattle.std.proofs.Common.{◌≡◌, ◌++◌, take}
use Rattle.tree77.specs.StatementPlain.{listed_items}
use Rattle.names77.specs.Notes.{listeds_notes}
use Rattle.names77.specs.Views.{shown_notes, shown_fact}
use Rattle.names77.proofs.expression_notes.+items.Given as goal

abbrev pub invariant-listeds_notes-loop-item : goal.invariant-listeds_notes-loop-item
invariant-listeds_notes-loop-item l = shown_notes l.notes ≡ shown_notes l.fn.notes ++ listeds_notes (shown_fact l.fact) (listed_items (take l.item-index l.items))
