use Rattle.free_printer.proofs.UnitTexts.{end_text-more}
use Rattle.free_printer.proofs.program.write_end.Goals as goal

pub returns : goal.returns
returns c =
    rw (end_text-more c.args.out.now c.extend.new.self c.as_slice.result.now c.args.unit.now c.as_slice-2.result.now
    c.as_slice.ensures.lines c.as_slice-2.ensures.characters c.in_ok-extend.ensures.ok) at c.write_line.ensures
