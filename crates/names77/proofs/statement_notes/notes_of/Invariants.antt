use Rattle.std.proofs.Common.{◌≡◌, take}
use Rattle.names77.specs.Notes.{notes_of}
use Rattle.names77.specs.Views.{shown_notes, shown_lines}
use Rattle.names77.proofs.statement_notes.notes_of.Given as goal

abbrev pub invariant-loop-line : goal.invariant-loop-line
invariant-loop-line l = shown_notes l.notes ≡ notes_of (shown_lines (take l.line-index l.lines))
