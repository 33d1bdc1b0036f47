-- The statements of a file in the code, as the definitions have them.
use Rattle.std.specs.Prelude.{ℕ, suc, List, [], ◌∷◌}
use Rattle.std.specs.Option.{option_map}
use Rattle.tree77.specs.StatementPlain.{statement_of}
use Rattle.order77.specs.declared.read.ReadStatement.{ReadStatement}
use Rattle.order77.specs.Counts.{Reading}

abbrev pub reading_at : ℕ → ReadStatement → Reading
reading_at n r = record { number = n; label = r.label; place = r.place; statement = option_map statement_of r.statement; refusal = r.refusal }

-- numbered from one number on
abbrev pub readings_from : ℕ → List ReadStatement → List Reading
readings_from n [] = []
readings_from n (r ∷ rs) = reading_at n r ∷ readings_from (suc n) rs

abbrev pub readings_of : List ReadStatement → List Reading
readings_of rs = readings_from 0 rs
