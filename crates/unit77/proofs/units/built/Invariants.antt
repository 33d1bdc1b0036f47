use Rattle.std.proofs.Common.{◌≡◌, ◌+◌, length}
use Rattle.std.specs.Vec.Iter.{into_iter_items, into_iter_len}
use Rattle.unit77.specs.UnitViews.{IsBuild, lines_from}
use Rattle.unit77.proofs.units.built.Given as goal

abbrev pub invariant-loop-read : goal.invariant-loop-read
invariant-loop-read l =
    IsBuild (lines_from 0 l.fn.statements.items) (lines_from l.number (into_iter_items l.read-iterator)) l.building
    × (l.number + length (into_iter_items l.read-iterator) ≡ length l.fn.statements.items)
    × (into_iter_len l.read-iterator ≡ length (into_iter_items l.read-iterator))
