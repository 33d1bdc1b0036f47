use Rattle.std.proofs.Common.{arith}
use Rattle.value_ops.proofs.Blanks.{turn, decided, undecided}
use Rattle.value_ops.proofs.text.compare_texts.Goals as goal

pub returns-then-is_ne : goal.returns-then-is_ne
returns-then-is_ne c = grind (arith, turn, decided)

pub loop-place-preserved : goal.loop-place-preserved
loop-place-preserved c = grind (arith, turn, undecided)
