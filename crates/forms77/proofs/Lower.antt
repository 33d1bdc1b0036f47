-- What the laws of the crates below say: of cuts, of expressions, and of character constants that are formats.
use Rattle.std.specs.List.{flat_map}
use Rattle.std.proofs.Common.{◌≡◌, ◌≢◌, ℕ, true, List, [], ◌∷◌, ◌++◌, Option, Some, None}
use Rattle.text_base.specs.Formats.{FormatItems, quoted}
use Rattle.text_base.specs.Pieces.{Piece, plain}
use Rattle.text_base.specs.Trees.{Expr}
use Rattle.tree77.specs.Forms.{IsFormatText}
use Rattle.tree77.specs.Lexemes.{Lexeme, Part, parts_from, IsWideExpression}
use Rattle.tree77.specs.Stops.{Begins}
use Rattle.tree77.specs.Tokens.{Token, mark, is_mark, IsCut, IsStuck, token_pieces}
use Rattle.scan77.specs.TokenReading.{no_token, read_tokens, AllFormed}
use Rattle.expr77.specs.Gathering.{keep}
use Rattle.expr77.specs.LexemeReading.{quoted_value}
use Rattle.expr77.specs.Outcome.{expression_of}
use Rattle.format77.specs.TextReading.{read_text}

pub record Lower : Type 0 where
  pub cut_found : (pieces : List Piece) (tokens : List Token) → read_tokens pieces no_token ≡ Some tokens → IsCut pieces tokens
  pub cut_only : (pieces : List Piece) (tokens : List Token) → IsCut pieces tokens → read_tokens pieces no_token ≡ Some tokens
  pub cut_next : (pieces : List Piece) (token : Token) (tokens : List Token) → IsCut pieces (token ∷ tokens) → (rest : List Piece) × (pieces ≡ token_pieces token ++ rest) × IsCut rest tokens
  pub cut_stuck : (pieces : List Piece) → read_tokens pieces no_token ≡ None → IsStuck pieces
  pub cut_uncut : (pieces : List Piece) (tokens : List Token) → IsStuck pieces → IsCut pieces tokens → ⊥
  pub cut_pieces : (pieces : List Piece) (tokens : List Token) → IsCut pieces tokens → pieces ≡ flat_map token_pieces tokens
  pub cut_formed : (pieces : List Piece) (tokens : List Token) → IsCut pieces tokens → AllFormed tokens
  pub parted_between : (pieces : List Piece) (tokens more : List Token) → IsCut pieces (tokens ++ more) → (before : List Piece) × (after : List Piece) × (pieces ≡ before ++ after) × IsCut before tokens × IsCut after more
  pub parted_at_mark : (before after : List Piece) (c : ℕ) (tokens : List Token) → is_mark c ≡ true → IsCut (before ++ plain c ∷ after) tokens
      → (first : List Token) × (rest : List Token) × (tokens ≡ first ++ record { kind = mark; text = c ∷ [] } ∷ rest) × IsCut before first × IsCut after rest
  pub wide_begins : (pieces : List Piece) (lexemes : List Lexeme) (x : Expr) → IsWideExpression pieces lexemes x → Begins pieces
  pub wide_cut : (pieces : List Piece) (lexemes : List Lexeme) (x : Expr) → IsWideExpression pieces lexemes x → (tokens : List Token) × IsCut pieces tokens
  pub expression_found : (pieces : List Piece) (tokens : List Token) (depth : ℕ) (lowest : Option Part) (x : Expr) (next : Option Part) → IsCut pieces tokens → expression_of depth lowest tokens ≡ Some (x, next)
      → (lexemes : List Lexeme) × IsWideExpression pieces lexemes x × (next ≡ keep lowest (parts_from depth lexemes))
  pub expression_only : (pieces : List Piece) (tokens : List Token) (depth : ℕ) (lowest : Option Part) (lexemes : List Lexeme) (x : Expr) → IsCut pieces tokens → IsWideExpression pieces lexemes x
      → expression_of depth lowest tokens ≡ Some (x, keep lowest (parts_from depth lexemes))
  pub quoted_found : (t v : List ℕ) → quoted_value t ≡ Some v → (t ≡ quoted v) × (v ≢ [])
  pub quoted_only : (v : List ℕ) → v ≢ [] → quoted_value (quoted v) ≡ Some v
  pub text_found : (characters : List ℕ) (items : FormatItems) (ps : List Part) → read_text characters ≡ Some (items, ps) → IsFormatText characters items ps
  pub text_only : (characters : List ℕ) (items : FormatItems) (ps : List Part) → IsFormatText characters items ps → read_text characters ≡ Some (items, ps)
