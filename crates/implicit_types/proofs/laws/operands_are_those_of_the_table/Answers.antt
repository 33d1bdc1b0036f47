use Rattle.implicit_types.proofs.OperandRows.{fits, signs, operators}
use Rattle.implicit_types.proofs.laws.operands_are_those_of_the_table.Goals as goal

pub returns-clause-fit : goal.returns-clause-fit
returns-clause-fit c = fits

pub returns-clause-signs : goal.returns-clause-signs
returns-clause-signs c = signs

pub returns-clause-operators : goal.returns-clause-operators
returns-clause-operators c = operators
