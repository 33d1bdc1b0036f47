use Rattle.std.proofs.Common.{◌≡◌, ◌+◌, drop}
use Rattle.std.specs.List.{position_from, zip}
use Rattle.text_base.specs.Kept.{marks_from, scan_all}
use Rattle.text_base.specs.LineRefusals.{is_bad}
use Rattle.card_reader.specs.Check.{bad_in_field}
use Rattle.card_reader.specs.Scan.{scan_of}
use Rattle.card_reader.proofs.check.read_text.Given as goal

-- the first bad character of all is the first of what is left, which goes on from the characters so far
abbrev pub invariant-loop-index : goal.invariant-loop-index
invariant-loop-index l = record {
  bad : position_from (λ p. is_bad p.0 p.1) (l.index + 7) (zip (drop l.index l.text) (marks_from (scan_of l.after) (drop l.index l.text))) ≡ bad_in_field (scan_of l.fn.scan) l.text;
  scanned : scan_all (scan_of l.after) (drop l.index l.text) ≡ scan_all (scan_of l.fn.scan) l.text;
}
