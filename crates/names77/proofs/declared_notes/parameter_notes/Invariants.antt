use Rattle.std.proofs.Common.{◌≡◌, ◌++◌, [], take}
use Rattle.names77.specs.Notes as plain
use Rattle.names77.specs.Views.{shown_notes}
use Rattle.names77.proofs.declared_notes.parameter_notes.Given as goal

abbrev pub invariant-loop-index : goal.invariant-loop-index
invariant-loop-index l = shown_notes l.notes ≡ shown_notes l.fn.notes ++ plain.parameter_notes l.function [] (take l.index l.dummies)
