use Rattle.group77.specs.Groups.{symbols_left}
use Rattle.group77.proofs.Feeding.{taken_seen}
use Rattle.group77.proofs.feed.Feed.take.Goals as goal

pub returns : goal.returns
unfolding symbols_left
returns c = taken_seen _ _ c.pop.result c.pop.ensures
