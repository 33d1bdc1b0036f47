use Rattle.parse77.proofs.CardReading.{CardLaws, card_spelled, card_accepted, card_refused, card_rejected}
use Rattle.parse77.proofs.StatementOutcomes.{Reads, spelled, read, refused, found_refused}
use Rattle.parse77.proofs.laws.statements_are_spelled.Goals as goal

pub returns : goal.returns
returns c =
    let reads : Reads = record {
      found = c.statements_are_read.ensures.found;
      only = c.statements_are_read.ensures.only;
    } in
    let d : CardLaws = record {
      pieces_found = c.one_list_of_pieces.ensures.found;
      pieces_only = c.one_list_of_pieces.ensures.only;
    } in
    record {
      spelled = spelled reads;
      read = read reads;
      refused = refused reads;
      found_refused = found_refused reads;
      card_found = card_spelled reads d;
      card_only = card_accepted reads d;
      card_refused = card_refused reads d;
      card_refused_only = card_rejected reads d;
    }
