-- What clauses see of the parts of a lexeme.
use Rattle.std.specs.Prelude.{ℕ, Bool, ◌&&◌, nat_le, List, ◌++◌, Option, Some, None, if◌then◌else◌}
use Rattle.std.specs.Option.{option_map}
use Rattle.text_base.specs.Formats.{GREATEST_IN_FORMAT}
use Rattle.scan77.specs.declared.piece_slice.PieceSlice.{PieceSlice}
use Rattle.scan77.specs.PieceSlice.{slice_of}
use Rattle.format77.specs.Reading as r
use Rattle.format77.specs.Reading.{Read, undoubled_from}
use Rattle.format77.specs.Views.{lexeme_of}
use Rattle.format77.specs.declared.lexeme.Lexeme.{Lexeme}
use Rattle.format77.specs.declared.number.Digits.{Digits}
use Rattle.format77.specs.declared.sort.Sort.{Sort}
use Rattle.format77.specs.declared.sort.Sort.TheVariants as v

-- the number that digits stand for, if it may stand in a format
abbrev pub number_by : ℕ → Digits → Option ℕ
number_by least digits = if digits.is_written && (nat_le least digits.value && nat_le digits.value GREATEST_IN_FORMAT) then Some digits.value else None

-- a value that is more than this one is kept as this one
abbrev pub LIMIT : ℕ
LIMIT = 10000

abbrev pub sort_view : Sort → r.Sort
sort_view v.I = r.letter_i
sort_view v.L = r.letter_l
sort_view v.A = r.letter_a
sort_view v.X = r.letter_x
sort_view v.H = r.letter_h
sort_view v.P = r.letter_p
sort_view v.T = r.letter_t
sort_view v.S = r.letter_s
sort_view v.B = r.letter_b
sort_view v.E = r.letter_e
sort_view v.Opening = r.an_opening
sort_view v.Closing = r.a_closing
sort_view v.Comma = r.a_comma
sort_view v.Slash = r.a_slash
sort_view v.Colon = r.a_colon
sort_view v.Sign = r.a_sign
sort_view v.Other = r.nothing

-- a lexeme, and what is left behind it
abbrev pub read_of : Option (Lexeme × PieceSlice) → Read
read_of read = option_map (λ r. (lexeme_of r.0, slice_of r.1)) read

-- characters before those that others stand for
abbrev pub with_value : List ℕ → Option (List ℕ) → Option (List ℕ)
with_value value more = option_map (λ v. value ++ v) more

abbrev pub with_next : List ℕ → Option Bool → List ℕ → Option (List ℕ)
with_next value None t = None
with_next value (Some even) t = with_value value (undoubled_from even t)
