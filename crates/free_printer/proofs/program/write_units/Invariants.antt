use Rattle.std.proofs.Common.{◌≡◌, ◌++◌, map, flat_map, take}
use Rattle.tree90.specs.Plain.{unit_of}
use Rattle.tree90.specs.Printed.{unit_text}
use Rattle.free_printer.proofs.program.write_units.Given as goal

abbrev pub invariant-loop-unit : goal.invariant-loop-unit
invariant-loop-unit l = l.out ≡ l.fn.out ++ flat_map unit_text (map unit_of (take l.unit-index l.units))
