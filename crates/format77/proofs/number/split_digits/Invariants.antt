use Rattle.std.proofs.Common.{◌≡◌, ◌≤◌, ◌||◌, length}
use Rattle.scan77.specs.PieceSlice.{slice_of}
use Rattle.format77.specs.Reading.{digits_here, behind_digits, is_written}
use Rattle.format77.specs.Parts.{LIMIT}
use Rattle.format77.proofs.Limits.{limited_after}
use Rattle.format77.proofs.number.split_digits.Given as goal

-- the digits so far and those of what is left are all digits
abbrev pub invariant-loop-digit : goal.invariant-loop-digit
invariant-loop-digit l = record {
  limited : l.number.value ≤ LIMIT;
  value : limited_after l.number.value (slice_of l.rest) ≡ limited_after 0 (slice_of l.fn.pieces);
  written : l.number.is_written || is_written (digits_here (slice_of l.rest)) ≡ is_written (digits_here (slice_of l.fn.pieces));
  left : behind_digits (slice_of l.rest) ≡ behind_digits (slice_of l.fn.pieces);
}

abbrev pub decreases-loop-digit : goal.decreases-loop-digit
decreases-loop-digit l = length (slice_of l.rest)
