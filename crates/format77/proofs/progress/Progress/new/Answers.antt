use Rattle.std.proofs.Common.{refl, false, None}
use Rattle.format77.proofs.StateSteps.{start_is}
use Rattle.format77.proofs.progress.Progress.new.Goals as goal

pub returns : goal.returns
returns c = start_is (record { builder = c.new.result; before = record { ends_item = false; is_free = false }; refused = None }) refl refl refl c.new.ensures.built c.new.ensures.groups
