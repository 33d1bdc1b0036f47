use Rattle.tree90.specs.Plain.{unit_of}
use Rattle.tree90.specs.Printed.{unit_text}
use Rattle.std.proofs.Common.{flat_map, map}
use Rattle.free_printer.proofs.Lists.{appended, flat_map-map-more}
use Rattle.free_printer.proofs.program.write_units.Goals as goal

pub loop-unit-preserved : goal.loop-unit-preserved
loop-unit-preserved c =
    appended (λ us. flat_map unit_text (map unit_of us)) (λ u. unit_text (unit_of u)) (flat_map-map-more unit_text unit_of)
    c.args.units.now c.loop-unit.unit-index c.unit-item.result c.args.out.now c.loop-unit.out c.write_unit.new.out
    c.unit-item.is c.loop-unit-test.true c.loop-unit.invariant c.in_ok-write_unit.ensures
