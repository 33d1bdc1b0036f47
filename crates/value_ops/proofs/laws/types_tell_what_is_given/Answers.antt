use Rattle.std.proofs.Common.{map, subst}
use Rattle.text_base.specs.Values.{kind_of}
use Rattle.text_base.specs.Operations.{outcome_kind}
use Rattle.value_ops.proofs.Rows.{Row, row, none_is_unfit, unfit_is_none}
use Rattle.value_ops.proofs.laws.types_tell_what_is_given.Goals as goal

pub returns-clause-fit : goal.returns-clause-fit
returns-clause-fit c = λ o vs. (unfit_is_none o vs, none_is_unfit o vs)

pub returns-clause-given : goal.returns-clause-given
returns-clause-given c = λ o vs v e. (subst (λ given. Row vs given (outcome_kind o (map kind_of vs))) e (row o vs)).0
