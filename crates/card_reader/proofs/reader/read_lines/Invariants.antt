use Rattle.std.proofs.Common.{◌≡◌, ◌+◌, ◌++◌, ◌≤◌, [], length, None}
use Rattle.std.specs.Option.{option_map}
use Rattle.text_base.specs.Lines.{lines}
use Rattle.text_base.specs.LineRefusals.{line_refusals}
use Rattle.card_reader.specs.Check.{read_refusals, state_of}
use Rattle.card_reader.specs.Deck.{empty_deck, with_lines}
use Rattle.card_reader.specs.Reader.{HasCounted}
use Rattle.card_reader.proofs.reader.read_lines.Given as goal

-- The refusals so far and those of what is left are those of all; where there are none, what was read goes on to what is
-- read of all. A line has at least a byte.
abbrev pub invariant-loop-left : goal.invariant-loop-left
invariant-loop-left l = record {
  refusals : l.reader.refusals ++ read_refusals l.file l.reader.next.line (option_map state_of l.reader.state) (lines l.left) ≡ line_refusals l.file 1 None (lines l.bytes);
  deck : l.reader.refusals ≡ [] → with_lines l.file l.reader.next.line (lines l.left) l.reader.deck ≡ with_lines l.file 1 (lines l.bytes) empty_deck;
  place : l.reader.next.file ≡ l.file;
  few : l.reader.next.line + length l.left ≤ length l.bytes + 1;
  counted : HasCounted l.reader;
}

abbrev pub decreases-loop-left : goal.decreases-loop-left
decreases-loop-left l = length l.left
