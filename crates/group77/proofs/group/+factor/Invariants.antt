use Rattle.std.proofs.Common.{length}
use Rattle.group77.specs.Groups.{symbols_left}
use Rattle.group77.proofs.group.+factor.Given as goal

abbrev pub decreases-factor : goal.decreases-factor
decreases-factor l = length (symbols_left l.feed.now)
