use Rattle.std.proofs.Common.{◌≡◌, ◌^◌, ◌<◌, filter, drop}
use Rattle.std.specs.Str.Parse.{digits_value_after}
use Rattle.text_base.specs.Chars.{is_digit}
use Rattle.text_base.specs.Lines as layout
use Rattle.card_reader.proofs.columns.label_of.Given as goal

-- what is left goes on from the value so far, which has no more digits than there were columns
abbrev pub invariant-loop-byte : goal.invariant-loop-byte
invariant-loop-byte l = record {
  value : digits_value_after 10 l.label (filter is_digit (drop l.byte-index l.field)) ≡ layout.label_of l.line;
  small : l.label < 10 ^ l.byte-index;
}
