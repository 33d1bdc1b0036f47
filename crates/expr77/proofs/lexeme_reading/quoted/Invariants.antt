use Rattle.std.proofs.Common.{◌≡◌, drop, false, Some}
use Rattle.expr77.specs.LexemeReading.{read_quoted, with_quoted}
use Rattle.expr77.proofs.lexeme_reading.quoted.Given as goal

-- the characters so far and those of what is left are those of all
abbrev pub invariant-loop-byte : goal.invariant-loop-byte
invariant-loop-byte l = with_quoted l.value (Some l.pending) (drop l.byte-index l.text) ≡ read_quoted false l.text
