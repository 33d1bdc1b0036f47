use Rattle.std.proofs.Common.{◌≡◌, take}
use Rattle.names77.specs.Rows.{with_notes}
use Rattle.names77.specs.Views.{shown_notes, shown_table}
use Rattle.names77.proofs.table.Table.add_all.Given as goal

abbrev pub invariant-loop-note : goal.invariant-loop-note
invariant-loop-note l = shown_table l.self ≡ with_notes (shown_table l.fn.self) (shown_notes (take l.note-index l.notes))
