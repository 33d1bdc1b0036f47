use Rattle.std.proofs.Common.{◌≡◌, drop, true, []}
use Rattle.order77.specs.Naming.{name_behind, lent_name}
use Rattle.order77.specs.ReadViews.{readings_from, readings_of}
use Rattle.order77.proofs.naming.last_name.Given as goal

abbrev pub invariant-loop-read : goal.invariant-loop-read
invariant-loop-read l = name_behind l.naming.is_first (lent_name l.naming.name) (readings_from l.read-index (drop l.read-index l.statements)) ≡ name_behind true [] (readings_of l.statements)
