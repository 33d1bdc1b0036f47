use Rattle.std.proofs.Common.{◌≡◌, ◌++◌, map, flat_map, take}
use Rattle.tree77.specs.StatementPlain.{type_of, declarator_of}
use Rattle.names77.specs.Notes as plain
use Rattle.names77.specs.Views.{shown_notes}
use Rattle.names77.proofs.declared_notes.typed_notes.Given as goal

abbrev pub invariant-loop-declarator : goal.invariant-loop-declarator
invariant-loop-declarator l = shown_notes l.notes ≡ shown_notes l.fn.notes ++ flat_map (plain.typed_notes (type_of l.of)) (map declarator_of (take l.declarator-index l.declarators))
