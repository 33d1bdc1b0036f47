use Rattle.parse77.proofs.FileReading.{FileLaws, file_found, file_only, file_as_read, file_read, file_refused}
use Rattle.parse77.proofs.laws.files_are_units.Goals as goal

pub returns : goal.returns
returns c =
    let laws : FileLaws = record {
      card_found = c.statements_are_spelled.ensures.card_found;
      card_only = c.statements_are_spelled.ensures.card_only;
      program = c.program_or_not.ensures;
    } in
    record {
      found = file_found laws;
      only = file_only laws;
      as_read = file_as_read laws;
      read = file_read laws;
      or_refused = file_refused;
    }
