-- The tokens of a statement: its pieces cut at longest runs.
use Rattle.std.specs.Prelude.{◌≡◌, ◌&&◌, ◌||◌, ℕ, Bool, true, false, not, ◌==◌, List, [], ◌∷◌, ◌++◌, map}
use Rattle.std.specs.List.{list_all}
use Rattle.text_base.specs.Chars.{is_upper, is_digit, is_name_byte}
use Rattle.text_base.specs.Pieces.{Piece, plain, whole, broken}

pub data TokenKind : Type 0 where
  -- letters, digits and underscores, of which the first is a letter
  run : TokenKind
  digits : TokenKind
  -- one kept text
  kept : TokenKind
  mark : TokenKind

pub record Token : Type 0 where
  pub kind : TokenKind
  pub text : List ℕ

-- ( ) , = + - * / : .
abbrev pub is_mark : ℕ → Bool
is_mark c = c == 40 || c == 41 || c == 44 || c == 61 || c == 43 || c == 45 || c == 42 || c == 47 || c == 58 || c == 46

-- the first piece isn't a character that passes
abbrev pub StopsAt : (ℕ → Bool) → List Piece → Type 0
StopsAt test [] = Unit {0}
StopsAt test (plain c ∷ rest) = test c ≡ false
StopsAt test (whole t ∷ rest) = Unit {0}
StopsAt test (broken t ∷ rest) = Unit {0}

-- The pieces are cut into the tokens, one after another.
pub data IsCut : List Piece → List Token → Type 0 where
  cut_nothing : {pieces : List Piece} {tokens : List Token} → pieces ≡ [] → tokens ≡ [] → IsCut pieces tokens
  -- a longest run
  cut_run : {pieces rest : List Piece} {tokens more : List Token} (c : ℕ) (u : List ℕ) → pieces ≡ plain c ∷ (map plain u ++ rest) → is_upper c ≡ true → list_all is_name_byte u ≡ true
      → StopsAt is_name_byte rest → IsCut rest more → tokens ≡ record { kind = run; text = c ∷ u } ∷ more → IsCut pieces tokens
  -- longest digits
  cut_digits : {pieces rest : List Piece} {tokens more : List Token} (c : ℕ) (u : List ℕ) → pieces ≡ plain c ∷ (map plain u ++ rest) → is_digit c ≡ true → list_all is_digit u ≡ true
      → StopsAt is_digit rest → IsCut rest more → tokens ≡ record { kind = digits; text = c ∷ u } ∷ more → IsCut pieces tokens
  cut_text : {pieces rest : List Piece} {tokens more : List Token} (t : List ℕ) → pieces ≡ whole t ∷ rest → IsCut rest more → tokens ≡ record { kind = kept; text = t } ∷ more → IsCut pieces tokens
  cut_mark : {pieces rest : List Piece} {tokens more : List Token} (c : ℕ) → pieces ≡ plain c ∷ rest → is_mark c ≡ true → IsCut rest more → tokens ≡ record { kind = mark; text = c ∷ [] } ∷ more
      → IsCut pieces tokens

-- the pieces that a token is made of
abbrev pub pieces_by : TokenKind → List ℕ → List Piece
pieces_by run t = map plain t
pieces_by digits t = map plain t
pieces_by kept t = whole t ∷ []
pieces_by mark t = map plain t

abbrev pub token_pieces : Token → List Piece
token_pieces token = pieces_by token.kind token.text

-- ---- where there are none

-- a character that begins no token
abbrev pub begins_none : ℕ → Bool
begins_none c = not (is_upper c) && (not (is_digit c) && not (is_mark c))

-- a token that may stand before these pieces
pub data MayPrecede (token : Token) (rest : List Piece) : Type 0 where
  precedes_run : (c : ℕ) (u : List ℕ) → token ≡ record { kind = run; text = c ∷ u } → is_upper c ≡ true → list_all is_name_byte u ≡ true → StopsAt is_name_byte rest → MayPrecede token rest
  precedes_digits : (c : ℕ) (u : List ℕ) → token ≡ record { kind = digits; text = c ∷ u } → is_digit c ≡ true → list_all is_digit u ≡ true → StopsAt is_digit rest → MayPrecede token rest
  precedes_text : (t : List ℕ) → token ≡ record { kind = kept; text = t } → MayPrecede token rest
  precedes_mark : (c : ℕ) → token ≡ record { kind = mark; text = c ∷ [] } → is_mark c ≡ true → MayPrecede token rest

-- behind tokens stands a character constant that doesn't end, or a character that begins no token
pub data IsStuck : List Piece → Type 0 where
  stuck_open : {pieces : List Piece} (t : List ℕ) (rest : List Piece) → pieces ≡ broken t ∷ rest → IsStuck pieces
  stuck_at : {pieces : List Piece} (c : ℕ) (rest : List Piece) → pieces ≡ plain c ∷ rest → begins_none c ≡ true → IsStuck pieces
  stuck_behind : {pieces rest : List Piece} (token : Token) → pieces ≡ token_pieces token ++ rest → MayPrecede token rest → IsStuck rest → IsStuck pieces
