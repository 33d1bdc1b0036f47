use Rattle.std.proofs.Common.{◌≡◌, drop, map}
use Rattle.std.specs.Option.{option_map}
use Rattle.scan77.specs.KindReading as reading
use Rattle.scan77.specs.Outline.{characters_left}
use Rattle.scan77.specs.Word.{word_text}
use Rattle.scan77.proofs.classification.longest_in.Given as goal

-- the longest so far, or a longer one of those that are left, is the longest of all
abbrev pub invariant-loop-word : goal.invariant-loop-word
invariant-loop-word l = reading.longer (option_map word_text l.longest) (reading.longest_of (map word_text (drop l.word-index l.words)) (characters_left l.at)) ≡ reading.longest_of (map word_text l.words) (characters_left l.at)
