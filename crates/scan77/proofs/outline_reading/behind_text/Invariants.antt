use Rattle.std.proofs.Common.{◌≡◌, drop}
use Rattle.scan77.specs.KindReading as reading
use Rattle.scan77.specs.Outline.{characters_left}
use Rattle.scan77.proofs.outline_reading.behind_text.Given as goal

-- what is left of the word is sought in what is left of the statement
abbrev pub invariant-loop-byte : goal.invariant-loop-byte
invariant-loop-byte l = reading.behind_text (drop l.byte-index l.word) (characters_left l.rest) ≡ reading.behind_text l.word (characters_left l.fn.at)
