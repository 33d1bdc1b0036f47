use Rattle.std.proofs.Common.{◌≡◌, ◌++◌, map, take}
use Rattle.std.specs.Prelude.{None}
use Rattle.tree77.specs.Statements.{Letters}
use Rattle.tree77.specs.StatementPlain.{type_of, letters_of}
use Rattle.names77.specs.Notes.{type_with}
use Rattle.names77.specs.Views.{shown_initials}
use Rattle.names77.proofs.types.implicit_initials.Given as goal

abbrev pub invariant-loop-letters : goal.invariant-loop-letters
invariant-loop-letters l =
    shown_initials l.found ≡ shown_initials l.fn.found
    ++ map (λ (x : Letters). record { type = type_with (type_of l.implicit.of) None; from = x.from; to = x.to }) (map letters_of (take l.letters-index l.letters-items))
