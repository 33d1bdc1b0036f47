use Rattle.std.proofs.Common.{◌≡◌, take}
use Rattle.command.specs.Lines.{refusal_lines}
use Rattle.command.proofs.lines.refusal_text.Given as goal

abbrev pub invariant-loop-refusal : goal.invariant-loop-refusal
invariant-loop-refusal l = l.text ≡ refusal_lines l.file (take l.refusal-index l.refusals)
