use Rattle.free_printer.proofs.UnitTexts.{object_text}
use Rattle.free_printer.proofs.program.write_object.Goals as goal

pub returns : goal.returns
returns c = rw (object_text c.args.kind c.args.name.now, ← c.as_slice.ensures.characters) c.write_line.ensures
