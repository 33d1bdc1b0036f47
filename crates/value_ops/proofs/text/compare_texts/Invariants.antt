use Rattle.std.proofs.Common.{◌≡◌}
use Rattle.text_base.specs.Operations.{text_cmp}
use Rattle.value_ops.proofs.Blanks.{rests_cmp}
use Rattle.value_ops.proofs.text.compare_texts.Given as goal

abbrev pub invariant-loop-place : goal.invariant-loop-place
invariant-loop-place l = text_cmp l.a l.b ≡ rests_cmp l.a l.b l.place
