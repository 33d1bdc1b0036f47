use Rattle.forms77.proofs.Sizes.{size_apart, size_parted}
use Rattle.forms77.proofs.laws.sizes_are_split.Goals as goal

pub returns-clause-size : goal.returns-clause-size
returns-clause-size c = size_apart

pub returns-clause-parted : goal.returns-clause-parted
returns-clause-parted c = size_parted
