use Rattle.worked_examples.specs.Sources.{whole_source, short_source, undefined_source, overflow_source, product_source}
use Rattle.worked_examples.proofs.LazyReading.{lazily_refused}
use Rattle.worked_examples.proofs.Opened.{opened}
use Rattle.worked_examples.proofs.reading.accepted_sources.Goals as goal

pub returns : goal.returns
unfolding opened
returns c = record {
  whole = lazily_refused whole_source;
  short = lazily_refused short_source;
  undefined = lazily_refused undefined_source;
  overflow = lazily_refused overflow_source;
  product = lazily_refused product_source;
}
