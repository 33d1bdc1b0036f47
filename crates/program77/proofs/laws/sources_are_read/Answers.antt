use Rattle.program77.proofs.SourceReading.{Laws, built_spelled, built_read, source_of, source_read}
use Rattle.program77.proofs.UnitRead.{read_alike, unit_read, text_read_is}
use Rattle.program77.proofs.laws.sources_are_read.Goals as goal

pub returns : goal.returns
returns c =
    let l : Laws = record {
      card_found = c.statements_are_spelled.ensures.card_found;
      card_only = c.statements_are_spelled.ensures.card_only;
      found = c.files_are_units.ensures.found;
      only = c.files_are_units.ensures.only;
      unit_read = unit_read c.statements_are_spelled.ensures.card_only;
      text_read = text_read_is c.statements_are_spelled.ensures.card_only;
    } in
    record {
      built_found = built_spelled l;
      built_only = built_read l;
      read_alike = read_alike;
      unit_read = l.unit_read;
      text_read = l.text_read;
      source_found = source_of l;
      source_only = source_read l;
    }
