use Rattle.std.proofs.Common.{◌≡◌, ◌+◌, ◌-◌, ◌≤◌, length}
use Rattle.std.specs.Option.{option_map}
use Rattle.scan77.specs.Token.{tokens_of}
use Rattle.expr77.specs.Gathering.{with_lexemes, nothing_gathered}
use Rattle.expr77.specs.LexemeReading.{lexemes_of}
use Rattle.expr77.specs.Views.{plain_part, gathered_in}
use Rattle.expr77.proofs.gathering.gather.Given as goal

-- what is gathered, with the lexemes of what is left, is what all gives
abbrev pub invariant-loop : goal.invariant-loop
invariant-loop l =
    (gathered_in (length l.fn.tokens - l.counter) l.reading ≡ option_map (with_lexemes (nothing_gathered (option_map plain_part l.fn.lowest)) l.fn.depth) (lexemes_of (tokens_of l.fn.tokens)))
    × (l.reading.depth ≤ l.fn.depth + l.counter)
