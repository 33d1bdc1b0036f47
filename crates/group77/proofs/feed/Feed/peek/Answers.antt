use Rattle.group77.specs.Groups.{symbols_left}
use Rattle.group77.proofs.Feeding.{first_seen}
use Rattle.group77.proofs.feed.Feed.peek.Goals as goal

pub returns : goal.returns
unfolding symbols_left
returns c = first_seen _ c.top.result c.top.ensures
