use Rattle.std.proofs.Common.{◌≡◌, map, fold, take}
use Rattle.std.specs.Option.{option_map}
use Rattle.names77.specs.Types.{usual_type, with_initial}
use Rattle.names77.specs.Views.{shown_type, shown_initial}
use Rattle.names77.proofs.types.letter_type.Given as goal

abbrev pub invariant-loop-initial : goal.invariant-loop-initial
invariant-loop-initial l = option_map shown_type l.found ≡ fold (with_initial l.letter) (usual_type l.letter) (map shown_initial (take l.initial-index l.initials))
