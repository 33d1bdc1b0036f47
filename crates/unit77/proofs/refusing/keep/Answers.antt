use Rattle.std.proofs.Common.{Some}
use Rattle.unit77.proofs.SlotLemmas.{slot_kept}
use Rattle.unit77.proofs.refusing.keep.Goals as goal

pub returns-then-number-slots : goal.returns-then-number-slots
returns-then-number-slots c count strays lows = slot_kept c.args.slots.now count strays c.args.stray (Some c.lower.result) c.if-number-slots.true c.lower.ensures lows
