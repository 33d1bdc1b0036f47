use Rattle.std.proofs.Common.{◌≡◌, ◌≤◌, length}
use Rattle.text_base.specs.Chars.{is_name_byte}
use Rattle.scan77.specs.Cutting.{behind_passing}
use Rattle.scan77.specs.PieceSlice.{slice_of}
use Rattle.scan77.proofs.cutting.behind_run.Given as goal

-- the characters so far pass
abbrev pub invariant-loop-byte : goal.invariant-loop-byte
invariant-loop-byte l = record {
  same : behind_passing is_name_byte (slice_of l.rest) ≡ behind_passing is_name_byte (slice_of l.fn.pieces);
  within : length l.rest.text.now ≤ length l.fn.pieces.text.now;
}

abbrev pub decreases-loop-byte : goal.decreases-loop-byte
decreases-loop-byte l = length l.rest.text.now
