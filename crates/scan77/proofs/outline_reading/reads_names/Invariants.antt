use Rattle.std.proofs.Common.{◌≡◌, true, length}
use Rattle.scan77.specs.KindReading as reading
use Rattle.scan77.specs.Outline.{characters_left}
use Rattle.scan77.proofs.outline_reading.reads_names.Given as goal

-- names and commas stand before what is left
abbrev pub invariant-loop-character : goal.invariant-loop-character
invariant-loop-character l = reading.reads_names l.begin (characters_left l.rest) ≡ reading.reads_names true (characters_left l.fn.at)

abbrev pub decreases-loop-character : goal.decreases-loop-character
decreases-loop-character l = length l.rest.text.now
