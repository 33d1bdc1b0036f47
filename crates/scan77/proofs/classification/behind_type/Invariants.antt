use Rattle.std.proofs.Common.{◌≡◌, drop, map}
use Rattle.scan77.specs.KindReading as reading
use Rattle.scan77.specs.Outline.{characters_left}
use Rattle.scan77.specs.Word.{word_text}
use Rattle.scan77.proofs.classification.behind_type.Given as goal

-- the types so far don't stand here
abbrev pub invariant-loop-word : goal.invariant-loop-word
invariant-loop-word l = reading.behind_type (map word_text (drop l.word-index l.types)) (characters_left l.at) ≡ reading.behind_type (map word_text l.types) (characters_left l.at)
