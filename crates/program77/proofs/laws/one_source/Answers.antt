use Rattle.std.proofs.Common.{◌≡◌, Some, sym, ◌∙◌}
use Rattle.program77.proofs.laws.one_source.Goals as goal

pub returns : goal.returns
returns c = λ file bytes p q a b.
    let e : Some p ≡ Some q = sym (c.sources_are_read.ensures.source_only file bytes p a) ∙ c.sources_are_read.ensures.source_only file bytes q b in cc
