use Rattle.std.proofs.Common.{map, ap}
use Rattle.group77.specs.Groups.{symbols_left}
use Rattle.group77.specs.Symbol.{grammar_symbol}
use Rattle.group77.proofs.Feeding.{none_kept}
use Rattle.group77.proofs.feed.Feed.is_empty.Goals as goal

pub returns : goal.returns
unfolding symbols_left
returns c = (λ h. ap (map grammar_symbol) (c.is_empty.ensures.0 h), λ h. c.is_empty.ensures.1 (none_kept _ h))
