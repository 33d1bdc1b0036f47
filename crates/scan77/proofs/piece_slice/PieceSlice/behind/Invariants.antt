use Rattle.std.proofs.Common.{◌≡◌, drop}
use Rattle.scan77.specs.PieceSlice.{slice_of, behind_plain}
use Rattle.scan77.proofs.piece_slice.PieceSlice.behind.Given as goal

-- what is left of the word is sought in what is left of the pieces
abbrev pub invariant-loop-byte : goal.invariant-loop-byte
invariant-loop-byte l = behind_plain (drop l.byte-index l.word) (slice_of l.rest) ≡ behind_plain l.word (slice_of l.fn.self)
