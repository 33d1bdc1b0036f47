use Rattle.parse77.specs.Statement.{file_readings}
use Rattle.parse77.proofs.FileReading.{one_list}
use Rattle.parse77.proofs.laws.one_list_of_units.Goals as goal

pub returns : goal.returns
returns c = λ cards us vs a b.
    one_list c.one_program.ensures (file_readings cards) us vs (c.files_are_units.ensures.read cards us a) (c.files_are_units.ensures.read cards vs b)
