use Rattle.std.proofs.Common.{◌≡◌, None, Some, sym, ◌∙◌, refl}
use Rattle.worked_examples.specs.Sources.{whole_source, short_source, undefined_source, overflow_source, product_source, no_sources}
use Rattle.worked_examples.specs.Read.{whole_program, short_program, undefined_program, overflow_program, product_program, IsNoSource}
use Rattle.worked_examples.proofs.LazyPieces.{lazy_pieces}
use Rattle.worked_examples.proofs.LazyReading.{source_is, source_by}
use Rattle.worked_examples.proofs.Opened.{opened}
use Rattle.worked_examples.proofs.Rows.{each_given}
use Rattle.worked_examples.proofs.reading.sources.Goals as goal

pub returns-clause-whole : goal.returns-clause-whole
unfolding opened
returns-clause-whole c = c.sources_are_read.ensures.source_found 0 whole_source whole_program (source_is 0 whole_source (Some whole_program) refl)

pub returns-clause-short : goal.returns-clause-short
unfolding opened
returns-clause-short c = c.sources_are_read.ensures.source_found 0 short_source short_program (source_is 0 short_source (Some short_program) refl)

pub returns-clause-undefined : goal.returns-clause-undefined
unfolding opened
returns-clause-undefined c = c.sources_are_read.ensures.source_found 0 undefined_source undefined_program (source_is 0 undefined_source (Some undefined_program) refl)

pub returns-clause-overflow : goal.returns-clause-overflow
unfolding opened
returns-clause-overflow c = c.sources_are_read.ensures.source_found 0 overflow_source overflow_program (source_is 0 overflow_source (Some overflow_program) refl)

pub returns-clause-product : goal.returns-clause-product
unfolding opened
returns-clause-product c = c.sources_are_read.ensures.source_found 0 product_source product_program (source_is 0 product_source (Some product_program) refl)

pub returns-clause-none : goal.returns-clause-none
unfolding opened
returns-clause-none c =
    let only = c.sources_are_read.ensures.source_only in
    each_given IsNoSource (source_by lazy_pieces 0) None (λ bytes nothing p is_source. let e : None ≡ Some p = sym (source_is 0 bytes None nothing) ∙ only 0 bytes p is_source in cc) no_sources refl
