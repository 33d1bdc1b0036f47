use Rattle.std.proofs.Common.{refl, subst}
use Rattle.tree77.specs.Kinds.{IsKind}
use Rattle.scan77.specs.KindReading.{read_kind}
use Rattle.worked_examples.specs.Words.{kinds}
use Rattle.worked_examples.proofs.Rows.{each_row}
use Rattle.worked_examples.proofs.kinds.kinds_of_statements.Goals as goal

pub returns : goal.returns
returns c = each_row (λ s. IsKind s.0 s.1) (λ s. read_kind s.0 s.1) (λ k. k) (λ s k e. subst (IsKind s.0 s.1) e (c.one_kind.ensures.found s.0 s.1)) kinds refl
