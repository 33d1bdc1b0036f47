use Rattle.std.proofs.Common.{◌≡◌, drop}
use Rattle.format77.specs.Reading.{undoubled, undoubled_from}
use Rattle.format77.specs.Parts.{with_value}
use Rattle.format77.proofs.texts.undoubled.Given as goal

-- the value so far stands before that of what is left
abbrev pub invariant-loop-byte : goal.invariant-loop-byte
invariant-loop-byte l = with_value l.value (undoubled_from l.is_even (drop l.byte-index l.text)) ≡ undoubled l.fn.text
