use Rattle.std.proofs.Common.{◌≡◌, ◌++◌, map, reverse, length}
use Rattle.specify77.specs.Views.{dummy_of}
use Rattle.specify77.proofs.header.names_of.Given as goal
use Rattle.tree77.specs.ControlForms.{all_names}

-- the names of what is left, before those that were taken, are all names
abbrev pub invariant-loop-dummy : goal.invariant-loop-dummy
invariant-loop-dummy l = all_names (map dummy_of l.dummies) ++ reverse l.names.items ≡ all_names (map dummy_of l.fn.dummies)

abbrev pub decreases-loop-dummy : goal.decreases-loop-dummy
decreases-loop-dummy l = length l.dummies
