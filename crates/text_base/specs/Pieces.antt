-- The pieces of a statement: its characters outside kept text, and each kept text whole.
use Rattle.std.specs.Prelude.{◌≡◌, ◌≢◌, ◌⊎◌, ℕ, ◌≤◌, Bool, true, List, [], ◌∷◌, ◌++◌, length, map, slice_index}
use Rattle.text_base.specs.Chars.{characters}
use Rattle.text_base.specs.Kept.{is_h, last_digits, count_before, IsPlain, IsInside}

pub data Piece : Type 0 where
  -- a character outside kept text as it is read; blanks there don't count
  plain : ℕ → Piece
  -- a character constant with its apostrophes, or the text of one nH
  whole : List ℕ → Piece
  -- a character constant that doesn't end
  broken : List ℕ → Piece

abbrev pub plain_pieces : List ℕ → List Piece
plain_pieces text = map plain (characters text)

-- the text of an nH, which may have no characters, before other pieces
abbrev pub counted_piece : List ℕ → List Piece → List Piece
counted_piece [] more = more
counted_piece (c ∷ t) more = whole (c ∷ t) ∷ more

-- A text is cut into plain text and kept text in turn.
pub data IsPieces (format : Bool) : List ℕ → List Piece → Type 0 where
  -- plain text to the end
  pieces_plain : {text : List ℕ} {pieces : List Piece} → IsPlain format text → pieces ≡ plain_pieces text → IsPieces format text pieces
  -- plain text, and a character constant that ends at the next apostrophe that isn't doubled
  pieces_constant : {text rest : List ℕ} {pieces more : List Piece} (before inside : List ℕ) → IsPlain format before → IsInside inside → slice_index rest 0 ≢ 39
      → text ≡ before ++ 39 ∷ (inside ++ 39 ∷ rest) → IsPieces format rest more
      → pieces ≡ plain_pieces before ++ whole (39 ∷ (inside ++ 39 ∷ [])) ∷ more → IsPieces format text pieces
  -- plain text, and a character constant that doesn't end
  pieces_open : {text : List ℕ} {pieces : List Piece} (before inside : List ℕ) → IsPlain format before → IsInside inside
      → text ≡ before ++ 39 ∷ inside → pieces ≡ plain_pieces before ++ broken (39 ∷ inside) ∷ [] → IsPieces format text pieces
  -- in a FORMAT, plain text that ends with digits, H, and as many characters as the digits say, or as there are
  pieces_count : {text rest : List ℕ} {pieces more : List Piece} (before : List ℕ) (h : ℕ) (inside : List ℕ) → format ≡ true → IsPlain format before → last_digits before ≢ [] → is_h h ≡ true
      → (length inside ≡ count_before before) ⊎ ((length inside ≤ count_before before) × (rest ≡ []))
      → text ≡ before ++ h ∷ (inside ++ rest) → IsPieces format rest more
      → pieces ≡ plain_pieces (before ++ h ∷ []) ++ counted_piece inside more → IsPieces format text pieces

-- the characters of a piece
abbrev pub piece_text : Piece → List ℕ
piece_text (plain c) = c ∷ []
piece_text (whole text) = text
piece_text (broken text) = text
