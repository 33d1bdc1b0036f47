-- The cut of pieces into tokens as a function: a law says that it is the one cut.
use Rattle.std.specs.Prelude.{◌≡◌, ℕ, true, List, [], ◌∷◌, ◌++◌, Option, Some, None, if◌then◌else◌}
use Rattle.std.specs.Option.{option_map}
use Rattle.text_base.specs.Chars.{is_upper, is_digit, is_name_byte}
use Rattle.text_base.specs.Pieces.{Piece, plain, whole, broken}
use Rattle.tree77.specs.Kinds.{is_word, is_number}
use Rattle.tree77.specs.Tokens.{Token, TokenKind, run, digits, kept, mark, is_mark}

-- the run or the digits that are being read, as far as they have come
pub data Open : Type 0 where
  no_token : Open
  open_run : List ℕ → Open
  open_digits : List ℕ → Open

-- its token, before the others
abbrev pub with_open : Open → Option (List Token) → Option (List Token)
with_open no_token more = more
with_open (open_run t) more = option_map (λ ts. record { kind = run; text = t } ∷ ts) more
with_open (open_digits t) more = option_map (λ ts. record { kind = digits; text = t } ∷ ts) more

-- a character that begins a token, where `more` reads the pieces behind it
abbrev pub begun_at : ℕ → (Open → Option (List Token)) → Option (List Token)
begun_at c more =
    if is_upper c then more (open_run (c ∷ []))
    else (if is_digit c then more (open_digits (c ∷ []))
    else (if is_mark c then option_map (λ ts. record { kind = mark; text = c ∷ [] } ∷ ts) (more no_token) else None))

-- a character after a token that is being read
abbrev pub read_next : Open → ℕ → (Open → Option (List Token)) → Option (List Token)
read_next no_token c more = begun_at c more
read_next (open_run t) c more = if is_name_byte c then more (open_run (t ++ c ∷ [])) else with_open (open_run t) (begun_at c more)
read_next (open_digits t) c more = if is_digit c then more (open_digits (t ++ c ∷ [])) else with_open (open_digits t) (begun_at c more)

-- the tokens of some pieces, if they can be cut
abbrev pub read_tokens : List Piece → Open → Option (List Token)
read_tokens [] o = with_open o (Some [])
read_tokens (plain c ∷ ps) o = read_next o c (read_tokens ps)
read_tokens (whole t ∷ ps) o = with_open o (option_map (λ ts. record { kind = kept; text = t } ∷ ts) (read_tokens ps no_token))
read_tokens (broken t ∷ ps) o = None

-- ---- tokens of a cut

-- what the characters of a token of this kind are
abbrev pub IsFormed : TokenKind → List ℕ → Type 0
IsFormed run t = is_word t ≡ true
IsFormed digits t = is_number t ≡ true
IsFormed kept t = Unit {0}
IsFormed mark t = (c : ℕ) × (t ≡ c ∷ []) × (is_mark c ≡ true)

-- each token is formed
abbrev pub AllFormed : List Token → Type 0
AllFormed [] = Unit {0}
AllFormed (t ∷ ts) = IsFormed t.kind t.text × AllFormed ts
