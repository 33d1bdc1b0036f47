use Rattle.std.proofs.Common.{arith}
use Rattle.std.proofs.lemmas.Grind.{common_steps}
use Rattle.implicit_types.proofs.TypingLemmas.{along_steps}
use Rattle.implicit_types.proofs.typing.refusals.Goals as goal

pub loop-line-preserved : goal.loop-line-preserved
loop-line-preserved c = (grind (arith, common_steps, along_steps), grind (arith, common_steps, along_steps))
