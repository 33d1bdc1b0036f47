use Rattle.std.proofs.Common.{map}
use Rattle.worked_examples.specs.Refused.{refused_sources}
use Rattle.worked_examples.proofs.LazyReading.{lazily_refused}
use Rattle.worked_examples.proofs.Opened.{opened}
use Rattle.worked_examples.proofs.refusing.refused_files.Goals as goal

pub returns : goal.returns
unfolding opened
returns c = λ i. map (λ row. lazily_refused row.0 i) refused_sources
