use Rattle.std.proofs.Common.{◌≡◌, length}
use Rattle.text_base.specs.Chars.{is_digit}
use Rattle.scan77.specs.KindReading as reading
use Rattle.scan77.specs.Outline.{characters_left}
use Rattle.scan77.proofs.outline_reading.behind_digits.Given as goal

-- the characters so far pass
abbrev pub invariant-loop-character : goal.invariant-loop-character
invariant-loop-character l = reading.behind_all is_digit (characters_left l.rest) ≡ reading.behind_all is_digit (characters_left l.fn.at)

abbrev pub decreases-loop-character : goal.decreases-loop-character
decreases-loop-character l = length l.rest.text.now
