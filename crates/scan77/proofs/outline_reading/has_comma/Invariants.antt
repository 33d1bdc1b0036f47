use Rattle.std.proofs.Common.{◌≡◌, ◌+◌, ◌≤◌, length}
use Rattle.scan77.specs.KindReading as reading
use Rattle.scan77.specs.Outline.{characters_left}
use Rattle.scan77.proofs.outline_reading.has_comma.Given as goal

-- as many parentheses are open as were opened, and each is a character
abbrev pub invariant-loop-character : goal.invariant-loop-character
invariant-loop-character l = record {
  same : reading.has_comma l.depth (characters_left l.rest) ≡ reading.has_comma 0 (characters_left l.fn.at);
  few : l.depth + length l.rest.text.now ≤ length l.fn.at.text.now;
}

abbrev pub decreases-loop-character : goal.decreases-loop-character
decreases-loop-character l = length l.rest.text.now
