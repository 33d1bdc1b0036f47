-- What is known of kinds, of forms and of formats.
use Rattle.std.specs.Prelude.{◌≡◌, ◌++◌, ℕ, List, map, codes, Option, Some}
use Rattle.text_base.specs.Formats.{FormatItems}
use Rattle.text_base.specs.Pieces.{Piece, plain}
use Rattle.tree77.specs.Forms.{behind_group}
use Rattle.tree77.specs.FormTable.{Sort, arithmetic_sort, condition_sort, then_sort}
use Rattle.tree77.specs.Kinds.{Kind, IsKind}
use Rattle.tree77.specs.Lexemes.{Part, first_lowest}
use Rattle.tree77.specs.Spelling.{HasForm, IsFormatBody, sort_in, size_sorts}
use Rattle.tree77.specs.Statements.{Statement, declared, format}
use Rattle.scan77.specs.KindReading.{read_kind}
use Rattle.scan77.specs.PieceSlice.{split_group, split_size}
use Rattle.format77.specs.Reading.{format_of}
use Rattle.format77.specs.TextReading.{items_and_parts}
use Rattle.forms77.specs.Whole.{whole_of}

-- the pieces before and behind the first parentheses
abbrev pub HasGroup : List Piece → Type 0
HasGroup rest = (front : List Piece) × (under : List Piece) × (split_group rest ≡ Some (front, under)) × (behind_group 0 rest ≡ under)

pub record Laws : Type 0 where
  pub kind_found : (label : ℕ) (text : List ℕ) → IsKind label text (read_kind label text)
  pub kind_only : (label : ℕ) (text : List ℕ) (kind : Kind) → IsKind label text kind → kind ≡ read_kind label text
  pub form_found : (k : Sort) (pieces : List Piece) (s : Statement) (lowest : Option Part) → whole_of k pieces ≡ Some (s, lowest) → (ps : List Part) × HasForm k pieces s ps × (lowest ≡ first_lowest ps)
  pub form_only : (k : Sort) (pieces : List Piece) (s : Statement) (ps : List Part) → HasForm k pieces s ps → whole_of k pieces ≡ Some (s, first_lowest ps)
  pub body_found : (pieces : List Piece) (items : FormatItems) (ps : List Part) → items_and_parts (format_of 0 pieces) ≡ Some (items, ps) → IsFormatBody pieces (declared (format items)) ps
  pub body_only : (pieces : List Piece) (s : Statement) (ps : List Part) → IsFormatBody pieces s ps → (items : FormatItems) × (s ≡ declared (format items)) × (items_and_parts (format_of 0 pieces) ≡ Some (items, ps))
  pub condition : (front under : List Piece) (s : Statement) (ps : List Part) → HasForm condition_sort front s ps → split_group (front ++ under) ≡ Some (front, under)
  pub labels : (rest : List Piece) (s : Statement) (ps : List Part) → HasForm arithmetic_sort rest s ps → HasGroup rest
  pub block : (rest : List Piece) (s : Statement) (ps : List Part) → HasForm then_sort rest s ps → HasGroup rest
  pub group_parted : (pieces front under : List Piece) → split_group pieces ≡ Some (front, under) → (pieces ≡ front ++ under) × (behind_group 0 pieces ≡ under)
  pub size : (k : Sort) (word : List ℕ) (size rest : List Piece) (s : Statement) (ps : List Part) → sort_in size_sorts word ≡ Some k → HasForm k size s ps
      → split_size (size ++ (map plain (codes "FUNCTION") ++ rest)) ≡ Some (size, map plain (codes "FUNCTION") ++ rest)
  pub size_parted : (pieces size rest : List Piece) → split_size pieces ≡ Some (size, rest) → pieces ≡ size ++ rest
