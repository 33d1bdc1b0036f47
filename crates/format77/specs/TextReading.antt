-- What the characters of a character constant are read as, as a format of a statement.
use Rattle.std.specs.Prelude.{ℕ, List, [], ◌∷◌, Option, Some, None}
use Rattle.text_base.specs.Formats as format
use Rattle.text_base.specs.Formats.{FormatItems}
use Rattle.tree77.specs.FormWords.{unsupported}
use Rattle.tree77.specs.Lexemes.{Part}
use Rattle.scan77.specs.PieceReading.{format_pieces_of}
use Rattle.format77.specs.Reading.{Outcome, accepted, refused, no_format, format_of}

-- the items with the parts that are refused; where a part is refused, nothing stands for the items
abbrev pub items_and_parts : Outcome → Option (FormatItems × List Part)
items_and_parts (accepted items) = Some (items, [])
items_and_parts (refused word) = Some (format.none, unsupported word ∷ [])
items_and_parts no_format = None

-- what the characters are read as
abbrev pub read_text : List ℕ → Option (FormatItems × List Part)
read_text characters = items_and_parts (format_of 0 (format_pieces_of characters))
