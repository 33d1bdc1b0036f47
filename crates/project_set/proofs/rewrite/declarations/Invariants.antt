use Rattle.std.proofs.Common.{◌≡◌, map, take}
use Rattle.tree90.specs.Tree.{integer_object}
use Rattle.tree90.specs.Plain as free
use Rattle.project_set.proofs.rewrite.declarations.Given as goal

abbrev pub invariant-loop-name : goal.invariant-loop-name
invariant-loop-name l = map free.declared_of l.made ≡ map integer_object (take l.name-index l.names)
