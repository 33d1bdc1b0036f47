use Rattle.free_printer.proofs.UnitTexts.{unit_text-more}
use Rattle.free_printer.proofs.program.write_unit.Goals as goal

pub returns : goal.returns
returns c =
    rw (unit_text-more c.args.out.now c.write_header.new.out c.write_declarations.new.out c.write_items.new.out c.args.unit.now
    c.as_slice.result.now c.as_slice-2.result.now c.in_ok-write_header.ensures c.as_slice.ensures c.in_ok-write_declarations.ensures
    c.as_slice-2.ensures c.in_ok-write_items.ensures) at c.write_end.ensures
