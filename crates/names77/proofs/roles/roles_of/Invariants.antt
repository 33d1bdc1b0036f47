use Rattle.std.proofs.Common.{◌≡◌, [], map, take}
use Rattle.names77.specs.RoleTables.{role_note, with_roles}
use Rattle.names77.specs.Views.{shown_notes, shown_table, shown_roles}
use Rattle.names77.proofs.roles.roles_of.Given as goal

abbrev pub invariant-loop-note : goal.invariant-loop-note
invariant-loop-note l = shown_roles l.roles ≡ with_roles [] (map (role_note (shown_table l.table)) (shown_notes (take l.note-index l.notes)))
