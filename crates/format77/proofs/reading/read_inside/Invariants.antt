use Rattle.std.proofs.Common.{◌≡◌, length}
use Rattle.scan77.specs.PieceSlice.{slice_of}
use Rattle.format77.specs.Reading.{lexemes_in}
use Rattle.format77.specs.State.{outcome_at, outcome_start}
use Rattle.format77.proofs.reading.read_inside.Given as goal

-- what becomes of what is left is what becomes of all
abbrev pub invariant-loop-rest : goal.invariant-loop-rest
invariant-loop-rest l = outcome_at l.progress (lexemes_in (length (slice_of l.rest)) (slice_of l.rest)) ≡ outcome_start (lexemes_in (length (slice_of l.fn.inside)) (slice_of l.fn.inside))

abbrev pub decreases-loop-rest : goal.decreases-loop-rest
decreases-loop-rest l = length (slice_of l.rest)
