use Rattle.std.proofs.Common.{◌≡◌, take}
use Rattle.project_set.proofs.VariableLemmas.{names_among}
use Rattle.project_set.proofs.variables.variables.Given as goal

abbrev pub invariant-loop-entity : goal.invariant-loop-entity
invariant-loop-entity l = l.names ≡ names_among (take l.entity-index l.entities)
