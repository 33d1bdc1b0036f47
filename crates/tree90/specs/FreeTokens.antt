-- The lexical tokens of a line of free form (ISO/IEC 1539:1991 sections 3.1, 3.2 and 3.3.1).
use Rattle.std.specs.Prelude.{ℕ, Bool, false, not, ◌&&◌, ◌||◌, ◌==◌, List, [], ◌∷◌, codes, if◌then◌else◌}
use Rattle.std.specs.List.{list_any}
use Rattle.std.specs.Str.{bytes_eq}
use Rattle.text_base.specs.Chars.{to_upper}
use Rattle.tree90.specs.Constants.{is_letter, is_figure}

pub data Token : Type 0 where
  -- a word, an operator or a mark, in upper case
  plain : List ℕ → Token
  -- a character constant, as the characters that it stands for
  quoted : List ℕ → Token
  -- a character constant that doesn't end
  unended : Token

-- letters of either case, digits and underscores (ISO/IEC 1539:1991 section 3.1)
abbrev pub is_word_byte : ℕ → Bool
is_word_byte c = is_letter (to_upper c) || is_figure c || c == 95

-- the operators and marks of two characters (ISO/IEC 1539:1991 section 3.2)
abbrev pub is_pair : ℕ → ℕ → Bool
is_pair c d = list_any (bytes_eq (c ∷ d ∷ [])) (codes "**" ∷ codes "//" ∷ codes "==" ∷ codes "/=" ∷ codes "<=" ∷ codes ">=" ∷ codes "::" ∷ [])

-- A dot opens a word such as .AND., and the next dot closes it: whether one is open behind a character.
abbrev pub is_open_behind : Bool → ℕ → Bool
is_open_behind opened c = if c == 46 then not opened else opened

-- A character belongs to one token with the next: both are of a word, or of one operator or mark; or a dot opens the word
-- that begins behind it, or closes the one that ends before it.
abbrev pub joins : Bool → ℕ → List ℕ → Bool
joins opened c [] = false
joins opened c (d ∷ t) = (is_word_byte c && is_word_byte d) || is_pair c d || (not opened && c == 46 && is_word_byte d) || (opened && is_word_byte c && d == 46)

-- where a character stands: outside character constants, with a word between dots open or not; in a character constant; or
-- in one as the second of two apostrophes
pub data Context : Type 0 where
  outside : Bool → Context
  within : Context
  doubling : Context

-- a character before the first of some tokens, as a part of it
abbrev pub attach : ℕ → List Token → List Token
attach c [] = plain (c ∷ []) ∷ []
attach c (plain w ∷ ts) = plain (c ∷ w) ∷ ts
attach c (quoted w ∷ ts) = quoted (c ∷ w) ∷ ts
attach c (unended ∷ ts) = unended ∷ ts

abbrev pub begins_quote : List ℕ → Bool
begins_quote [] = false
begins_quote (c ∷ t) = c == 39

-- the tokens from a character on, which stands there
abbrev pub tokens_from : Context → List ℕ → List Token
tokens_from (outside opened) [] = []
tokens_from (outside opened) (c ∷ t) =
    if c == 32 then tokens_from (outside opened) t
    else (if c == 39 then tokens_from within t
    else (if joins opened c t then attach (to_upper c) (tokens_from (outside (is_open_behind opened c)) t) else plain (to_upper c ∷ []) ∷ tokens_from (outside (is_open_behind opened c)) t))
tokens_from within [] = unended ∷ []
tokens_from within (c ∷ t) =
    if c == 39 then (if begins_quote t then attach 39 (tokens_from doubling t) else quoted [] ∷ tokens_from (outside false) t)
    else attach c (tokens_from within t)
tokens_from doubling [] = []
tokens_from doubling (c ∷ t) = tokens_from within t

-- The tokens of a line: longest runs of characters that belong to one token, and whole character constants, in which a
-- doubled apostrophe stands for one. Outside them blanks separate tokens, and letters are read as upper case.
abbrev pub tokens : List ℕ → List Token
tokens line = tokens_from (outside false) line
