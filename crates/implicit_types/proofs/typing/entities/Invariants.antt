use Rattle.std.proofs.Common.{◌≡◌, ◌++◌, map}
use Rattle.std.specs.Prelude.{flat_map}
use Rattle.names77.specs.Views.{shown_entry, shown_known}
use Rattle.implicit_types.specs.Typing.{row_entities, entities_of}
use Rattle.implicit_types.specs.Views.{shown_entity}
use Rattle.implicit_types.proofs.typing.entities.Given as goal

abbrev pub invariant-loop-name : goal.invariant-loop-name
invariant-loop-name l = map shown_entity l.entities ++ flat_map (row_entities (shown_known l.known)) (map shown_entry l.name-iterator) ≡ entities_of (shown_known l.known)
