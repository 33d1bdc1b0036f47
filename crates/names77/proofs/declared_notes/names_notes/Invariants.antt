use Rattle.std.proofs.Common.{◌≡◌, ◌++◌, take}
use Rattle.names77.specs.Notes as plain
use Rattle.names77.specs.Views.{shown_notes, shown_fact}
use Rattle.names77.proofs.declared_notes.names_notes.Given as goal

abbrev pub invariant-loop-name : goal.invariant-loop-name
invariant-loop-name l = shown_notes l.notes ≡ shown_notes l.fn.notes ++ plain.names_notes (shown_fact l.fact) (take l.name-index l.names)
