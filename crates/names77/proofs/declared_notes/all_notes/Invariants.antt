use Rattle.std.proofs.Common.{◌≡◌, ◌++◌, flat_map, take}
use Rattle.names77.specs.Views.{shown_notes}
use Rattle.names77.proofs.declared_notes.all_notes.Given as goal

abbrev pub invariant-loop-part : goal.invariant-loop-part
invariant-loop-part g l = shown_notes l.notes ≡ shown_notes l.fn.notes ++ flat_map g.T.Says.said (take l.part-index l.parts)
