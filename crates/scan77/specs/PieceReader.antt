-- The pieces that have been read of a statement, as far as they have come.
use Rattle.std.specs.Prelude.{◌≡◌, ℕ, ◌≤◌, Bool, ◌&&◌, nat_lt, List, [], ◌∷◌, length, map, take, drop, if◌then◌else◌}
use Rattle.text_base.specs.Kept.{Scan}
use Rattle.scan77.specs.PieceList.{pieces_in}
use Rattle.scan77.specs.PieceReading.{ReadSoFar, Current, no_text, constant, counted}
use Rattle.scan77.specs.declared.mark.Mark.{Mark}
use Rattle.scan77.specs.declared.mark.Mark.TheVariants.{First, Further}
use Rattle.scan77.specs.declared.piece_reader.PieceReader.{PieceReader}

-- the kept text that some last characters are
abbrev pub current_in : Bool → List ℕ → Current
current_in is_constant [] = no_text
current_in is_constant (c ∷ t) = if is_constant then constant (c ∷ t) else counted (c ∷ t)

-- the pieces before the kept text that is being read, and that text
abbrev pub read_so_far : PieceReader → ReadSoFar
read_so_far reader = record {
  pieces = pieces_in (take reader.first reader.text) (take reader.first reader.marks);
  current = current_in reader.is_constant (drop reader.first reader.text);
}

-- the marks of a kept text
abbrev pub kept_marks : List ℕ → List Mark
kept_marks [] = []
kept_marks (c ∷ t) = First ∷ map (λ _. Further) t

-- each character has its mark, and the last ones are those of a kept text
pub record IsMarked (reader : PieceReader) : Type 0 where
  pub marked : length reader.marks ≡ length reader.text
  pub within : reader.first ≤ length reader.text
  pub kept : drop reader.first reader.marks ≡ kept_marks (drop reader.first reader.text)

-- a character constant is being read, and is open
abbrev pub is_open : Scan → Bool → ℕ → List ℕ → Bool
is_open s is_constant first text = s.inside && (is_constant && nat_lt first (length text))
