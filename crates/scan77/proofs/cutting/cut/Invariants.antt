use Rattle.std.proofs.Common.{◌++◌, List, length}
use Rattle.tree77.specs.Tokens.{Token, IsCut, IsStuck}
use Rattle.scan77.specs.PieceSlice.{slice_of}
use Rattle.scan77.specs.Token.{tokens_of}
use Rattle.scan77.proofs.cutting.cut.Given as goal

-- the tokens so far and those of what is left are those of all, and what is left is stuck where all is
abbrev pub invariant-loop-rest : goal.invariant-loop-rest
invariant-loop-rest l = record {
  cut : (more : List Token) → IsCut (slice_of l.rest) more → IsCut (slice_of l.pieces) (tokens_of l.tokens ++ more);
  stuck : IsStuck (slice_of l.rest) → IsStuck (slice_of l.pieces);
}

abbrev pub decreases-loop-rest : goal.decreases-loop-rest
decreases-loop-rest l = length l.rest.text.now
