use Rattle.value_ops.proofs.Powers.{zero_power, next_power, negative_power}
use Rattle.value_ops.proofs.laws.powers_are_products.Goals as goal

pub returns-clause-zero : goal.returns-clause-zero
returns-clause-zero c = zero_power

pub returns-clause-next : goal.returns-clause-next
returns-clause-next c = next_power

pub returns-clause-negative : goal.returns-clause-negative
returns-clause-negative c = negative_power
