use Rattle.forms77.proofs.Groups.{condition_apart, labels_apart, block_apart, group_parted}
use Rattle.forms77.proofs.laws.groups_are_split.Goals as goal

pub returns-clause-condition : goal.returns-clause-condition
returns-clause-condition c = condition_apart

pub returns-clause-labels : goal.returns-clause-labels
returns-clause-labels c = labels_apart

pub returns-clause-block : goal.returns-clause-block
returns-clause-block c = block_apart

pub returns-clause-parted : goal.returns-clause-parted
returns-clause-parted c = group_parted
