use Rattle.std.proofs.Common.{arith}
use Rattle.std.proofs.lemmas.Grind.{common_steps}
use Rattle.implicit_types.proofs.TypingLemmas.{along_steps}
use Rattle.implicit_types.proofs.before.Before.check_notes.Goals as goal

pub loop-note-preserved : goal.loop-note-preserved
loop-note-preserved c = (grind (arith, common_steps, along_steps), grind (arith, common_steps, along_steps))
