use Rattle.std.proofs.Common.{map, subst}
use Rattle.text_base.specs.Values.{kind_of}
use Rattle.text_base.specs.Operations.{outcome_kind}
use Rattle.value_ops.proofs.Rows.{Row, row}
use Rattle.value_ops.proofs.laws.values_are_storable.Goals as goal

pub returns : goal.returns
returns c = λ o vs v h e. (subst (λ given. Row vs given (outcome_kind o (map kind_of vs))) e (row o vs)).1 h
