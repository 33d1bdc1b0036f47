use Rattle.std.proofs.Common.{◌≡◌, ◌++◌, map, flat_map, take}
use Rattle.tree77.specs.StatementPlain.{declarator_of}
use Rattle.names77.specs.Notes as plain
use Rattle.names77.specs.Views.{shown_notes}
use Rattle.names77.proofs.declared_notes.Block77Says.add_notes.Given as goal

abbrev pub invariant-loop-member : goal.invariant-loop-member
invariant-loop-member l = shown_notes l.notes ≡ shown_notes l.fn.notes ++ flat_map plain.member_notes (map declarator_of (take l.member-index l.member-items))
