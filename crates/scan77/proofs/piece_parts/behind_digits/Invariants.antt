use Rattle.std.proofs.Common.{◌≡◌, ◌≤◌, length}
use Rattle.text_base.specs.Chars.{is_digit}
use Rattle.scan77.specs.Cutting.{behind_passing}
use Rattle.scan77.specs.PieceSlice.{slice_of}
use Rattle.scan77.specs.PieceParts.{IsBehind}
use Rattle.scan77.proofs.piece_parts.behind_digits.Given as goal

-- the characters so far pass
abbrev pub invariant-loop-byte : goal.invariant-loop-byte
invariant-loop-byte l = record {
  same : behind_passing is_digit (slice_of l.rest) ≡ behind_passing is_digit (slice_of l.fn.pieces);
  within : length l.rest.text.now ≤ length l.fn.pieces.text.now;
  behind : IsBehind l.fn.pieces l.rest;
}

abbrev pub decreases-loop-byte : goal.decreases-loop-byte
decreases-loop-byte l = length l.rest.text.now
