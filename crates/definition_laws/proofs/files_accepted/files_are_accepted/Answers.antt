use Rattle.definition_laws.proofs.AcceptedFiles.{cards_are_spelled, files_are_sources}
use Rattle.definition_laws.proofs.files_accepted.files_are_accepted.Goals as goal

pub returns : goal.returns
returns c = let l = c.sources_are_read.ensures in record { card = cards_are_spelled l.built_found l.built_only; file = files_are_sources l.source_found l.source_only }
