use Rattle.std.proofs.Common.{◌≡◌, ◌≤◌, length}
use Rattle.scan77.specs.PieceList.{kept_and_pieces}
use Rattle.scan77.specs.PieceParts.{IsBehind}
use Rattle.scan77.proofs.piece_parts.behind_kept.Given as goal

-- the characters so far are of the kept text
abbrev pub invariant-loop-more : goal.invariant-loop-more
invariant-loop-more l = record {
  same : (kept_and_pieces l.rest.text.now l.rest.marks.now).1 ≡ (kept_and_pieces l.fn.pieces.text.now l.fn.pieces.marks.now).1;
  within : length l.rest.text.now ≤ length l.fn.pieces.text.now;
  behind : IsBehind l.fn.pieces l.rest;
}

abbrev pub decreases-loop-more : goal.decreases-loop-more
decreases-loop-more l = length l.rest.text.now
