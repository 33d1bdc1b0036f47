use Rattle.std.proofs.Common.{◌≡◌, ◌++◌, take, fold}
use Rattle.names77.specs.Views.{shown_known, shown_notes}
use Rattle.implicit_types.specs.NameFindings.{noted, notes_findings}
use Rattle.implicit_types.specs.Views.{shown_before, shown_findings}
use Rattle.implicit_types.proofs.before.Before.check_notes.Given as goal

abbrev pub invariant-loop-note : goal.invariant-loop-note
invariant-loop-note l =
    (shown_findings l.findings ≡ shown_findings l.fn.findings ++ notes_findings (shown_known l.known) (shown_before l.fn.self) (shown_notes (take l.note-index l.notes)))
    × (shown_before l.self ≡ fold (noted (shown_known l.known)) (shown_before l.fn.self) (shown_notes (take l.note-index l.notes)))
