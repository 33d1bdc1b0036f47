-- What one call of a sink does to the bytes that were written.
use Rattle.std.specs.Prelude.{ℕ, List, [], take, Result, Ok, Err}

-- the part of the piece that the sink took
abbrev pub taken : {E : Type 0} → Result ℕ E → List ℕ → List ℕ
taken (Ok count) piece = take count piece
taken (Err e) piece = []
