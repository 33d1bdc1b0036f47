use Rattle.std.proofs.Common.{◌≡◌, ◌+◌, ◌≤◌, length}
use Rattle.scan77.specs.PieceSlice.{slice_of, split_partner}
use Rattle.scan77.specs.PieceParts.{IsBehind}
use Rattle.scan77.proofs.PieceSplits.{behind_split}
use Rattle.scan77.proofs.piece_parts.behind_partner.Given as goal

-- the partner is sought in what is left, where as many are open as were opened
abbrev pub invariant-loop-piece : goal.invariant-loop-piece
invariant-loop-piece l = record {
  same : behind_split (split_partner l.depth (slice_of l.rest)) ≡ behind_split (split_partner 0 (slice_of l.fn.pieces));
  few : l.depth + length l.rest.text.now ≤ length l.fn.pieces.text.now;
  behind : IsBehind l.fn.pieces l.rest;
}

abbrev pub decreases-loop-piece : goal.decreases-loop-piece
decreases-loop-piece l = length l.rest.text.now
