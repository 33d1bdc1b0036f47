use Rattle.std.proofs.Common.{refl}
use Rattle.tree90.specs.Proper.{IsProper}
use Rattle.worked_examples.specs.Sources.{whole_source}
use Rattle.worked_examples.specs.Read.{whole_program}
use Rattle.worked_examples.specs.Written.{whole_written}
use Rattle.worked_examples.proofs.Opened.{opened}
use Rattle.worked_examples.proofs.writing.whole_reading.Goals as goal

pub returns : goal.returns
unfolding opened
returns c =
    let proper : IsProper whole_written = c.written_is_proper.ensures whole_source whole_program (record { is_source = c.sources.ensures.whole; accepted = c.accepted_sources.ensures.whole }) in
    record { written = refl; spelled = c.printed_is_read.ensures whole_written proper.writable; proper = proper }
