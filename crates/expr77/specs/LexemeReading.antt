-- The reading of tokens as the lexemes of an expression, as a function.
use Rattle.std.specs.Prelude.{ℕ, zero, suc, Bool, true, false, ◌&&◌, ◌||◌, ◌==◌, List, [], ◌∷◌, ◌++◌, length, codes, Option, Some, None, if◌then◌else◌}
use Rattle.std.specs.List.{list_all}
use Rattle.std.specs.Option.{option_map, option_and_then, option_or}
use Rattle.std.specs.Str.{bytes_eq}
use Rattle.text_base.specs.Chars.{is_digit}
use Rattle.tree77.specs.Kinds.{is_word}
use Rattle.tree77.specs.Tokens.{Token, TokenKind, run, digits, kept, mark}
use Rattle.text_base.specs.Trees.{power, times, over, add, subtract, concat, less, less_equal, equal, not_equal, greater, greater_equal, conjunction, disjunction, equivalence, nonequivalence}
use Rattle.tree77.specs.Lexemes.{Lexeme, integer, constant, logical, characters, name, alternate, operator, not_sign, opening, closing, comma, colon, is_label}

-- ---- tokens

-- the first character; 0 where there is none
abbrev pub first_or_0 : List ℕ → ℕ
first_or_0 [] = 0
first_or_0 (c ∷ t) = c

-- the character of a mark; 0 for other tokens
abbrev pub character_of : TokenKind → List ℕ → ℕ
character_of run t = 0
character_of digits t = 0
character_of kept t = 0
character_of mark t = first_or_0 t

-- the token is the mark of this character
abbrev pub is_mark_of : ℕ → Token → Bool
is_mark_of c t = character_of t.kind t.text == c

-- what is left behind a mark, if it stands here
abbrev pub behind_mark : ℕ → List Token → Option (List Token)
behind_mark c [] = None
behind_mark c (t ∷ ts) = if is_mark_of c t then Some ts else None

-- behind one sign, if one stands here; else all
abbrev pub or_all : {A : Type 0} → A → Option A → A
or_all all None = all
or_all all (Some rest) = rest

-- what is left behind a sign, if one stands here; else all
abbrev pub behind_sign : List Token → List Token
behind_sign ts = or_all ts (option_or (behind_mark 43 ts) (behind_mark 45 ts))

-- the characters of a run; those of other tokens don't count
abbrev pub text_if_run : TokenKind → List ℕ → Option (List ℕ)
text_if_run run t = Some t
text_if_run digits t = None
text_if_run kept t = None
text_if_run mark t = None

-- the characters of digits; those of other tokens don't count
abbrev pub text_if_digits : TokenKind → List ℕ → Option (List ℕ)
text_if_digits run t = None
text_if_digits digits t = Some t
text_if_digits kept t = None
text_if_digits mark t = None

-- a run, and what is left behind it
abbrev pub run_here : List Token → Option (List ℕ × List Token)
run_here [] = None
run_here (t ∷ ts) = option_map (λ u. (u, ts)) (text_if_run t.kind t.text)

-- digits, and what is left behind them
abbrev pub digits_here : List Token → Option (List ℕ × List Token)
digits_here [] = None
digits_here (t ∷ ts) = option_map (λ u. (u, ts)) (text_if_digits t.kind t.text)

-- ---- numbers

-- E or D
abbrev pub is_exponent_letter : ℕ → Bool
is_exponent_letter c = c == 69 || c == 68

-- what is left behind a sign and digits, if they stand here
abbrev pub behind_signed_digits : List Token → Option (List Token)
behind_signed_digits ts = option_and_then (λ more. option_map (λ d. d.1) (digits_here more)) (option_or (behind_mark 43 ts) (behind_mark 45 ts))

-- what is left behind an exponent whose run has been read
abbrev pub behind_exponent_run : List ℕ → List Token → Option (List Token)
behind_exponent_run [] rest = None
behind_exponent_run (c ∷ []) rest = if is_exponent_letter c then behind_signed_digits rest else None
behind_exponent_run (c ∷ d ∷ t) rest = if is_exponent_letter c && list_all is_digit (d ∷ t) then Some rest else None

-- what is left behind an exponent, if one stands here
abbrev pub behind_exponent : List Token → Option (List Token)
behind_exponent ts = option_and_then (λ r. behind_exponent_run r.0 r.1) (run_here ts)

-- an integer constant with its digits, or a real one
pub data Number : Type 0 where
  whole : List ℕ → Number
  real : Number

-- behind digits and a point
abbrev pub behind_point : List ℕ → List Token → List Token → Option (List Token) → Option (List ℕ × List Token) → Option (List ℕ × List Token) → Number × List Token
behind_point d point rest (Some after) word fraction = (real, after)
behind_point d point rest None (Some r) fraction = (whole d, point)
behind_point d point rest None None (Some fraction) = (real, or_all fraction.1 (behind_exponent fraction.1))
behind_point d point rest None None None = (real, rest)

-- behind digits
abbrev pub behind_digits : List ℕ → List Token → Option (List Token) → Option (List Token) → Number × List Token
behind_digits d rest (Some after) point = (real, after)
behind_digits d rest None (Some more) = behind_point d rest more (behind_exponent more) (run_here more) (digits_here more)
behind_digits d rest None None = (whole d, rest)

-- a number, where these digits have been read, if any
abbrev pub number_from : List Token → Option (List ℕ × List Token) → Option (Number × List Token)
number_from ts (Some d) = Some (behind_digits d.0 d.1 (behind_exponent d.1) (behind_mark 46 d.1))
number_from ts None = option_map (λ d. (real, or_all d.1 (behind_exponent d.1))) (option_and_then digits_here (behind_mark 46 ts))

-- a number without a sign
unfoldable pub read_number : List Token → Option (Number × List Token)
read_number ts = number_from ts (digits_here ts)

-- what is left behind a part of a complex constant, which may have a sign, if one stands here
abbrev pub behind_part : List Token → Option (List Token)
behind_part ts = option_map (λ n. n.1) (read_number (behind_sign ts))

-- what is left behind a complex constant, if one stands here
unfoldable pub behind_complex : List Token → Option (List Token)
behind_complex ts = option_and_then (behind_mark 41) (option_and_then behind_part (option_and_then (behind_mark 44) (option_and_then behind_part (behind_mark 40 ts))))

-- the text begins with H
abbrev pub begins_with_h : List ℕ → Bool
begins_with_h t = first_or_0 t == 72

-- what is left behind H and what follows it, if it stands here
abbrev pub behind_hollerith : List Token → Option (List Token)
behind_hollerith ts = option_and_then (λ r. if begins_with_h r.0 then Some r.1 else None) (run_here ts)

-- ---- lexemes

-- what may stand here: an argument or any operand, an operand, or what follows an operand
pub data Stand : Type 0 where
  at_argument : Stand
  at_operand : Stand
  after_operand : Stand

-- an operand stands before it
abbrev pub is_after : Stand → Bool
is_after after_operand = true
is_after _ = false

-- an argument may stand there
abbrev pub is_argument : Stand → Bool
is_argument at_argument = true
is_argument _ = false

-- what stands between apostrophes, where one may have been read that isn't doubled yet, up to the last
abbrev pub read_quoted : Bool → List ℕ → Option (List ℕ)
read_quoted false [] = None
read_quoted true [] = Some []
read_quoted false (c ∷ t) = if c == 39 then read_quoted true t else option_map (λ v. c ∷ v) (read_quoted false t)
read_quoted true (c ∷ t) = if c == 39 then option_map (λ v. 39 ∷ v) (read_quoted false t) else None

-- some characters, and those that are read of the rest
abbrev pub with_quoted : List ℕ → Option Bool → List ℕ → Option (List ℕ)
with_quoted value None t = None
with_quoted value (Some pending) t = option_map (λ v. value ++ v) (read_quoted pending t)

-- the characters, unless there are none
abbrev pub unless_empty : List ℕ → Option (List ℕ)
unless_empty [] = None
unless_empty (c ∷ t) = Some (c ∷ t)

-- the characters that a character constant stands for
abbrev pub quoted_value : List ℕ → Option (List ℕ)
quoted_value [] = None
quoted_value (c ∷ t) = if c == 39 then option_and_then unless_empty (read_quoted false t) else None

-- an operator or logical constant between points
abbrev pub read_word : List ℕ → Option Lexeme
read_word t =
    if bytes_eq t (codes "LT") then Some (operator less)
    else (if bytes_eq t (codes "LE") then Some (operator less_equal)
    else (if bytes_eq t (codes "EQ") then Some (operator equal)
    else (if bytes_eq t (codes "NE") then Some (operator not_equal)
    else (if bytes_eq t (codes "GT") then Some (operator greater)
    else (if bytes_eq t (codes "GE") then Some (operator greater_equal)
    else (if bytes_eq t (codes "AND") then Some (operator conjunction)
    else (if bytes_eq t (codes "OR") then Some (operator disjunction)
    else (if bytes_eq t (codes "EQV") then Some (operator equivalence)
    else (if bytes_eq t (codes "NEQV") then Some (operator nonequivalence)
    else (if bytes_eq t (codes "NOT") then Some not_sign
    else (if bytes_eq t (codes "TRUE") then Some (logical true)
    else (if bytes_eq t (codes "FALSE") then Some (logical false)
    else None))))))))))))

-- what has been read, and the tokens behind it
abbrev pub Found : Type 0
Found = Option (Lexeme × List Token)

-- the lexeme that a number is
abbrev pub lexeme_of_number : Number → Lexeme
lexeme_of_number (whole d) = integer d
lexeme_of_number real = constant

-- a number as a lexeme, and the tokens behind it
abbrev pub found_number : List Token → Found
found_number ts = option_map (λ n. (lexeme_of_number n.0, n.1)) (read_number ts)

-- this lexeme, if tokens are left behind it; else what else has been read
abbrev pub or_found : Option (List Token) → Lexeme → Found → Found
or_found (Some rest) i other = Some (i, rest)
or_found None i other = other

-- a point, where these tokens are behind it
abbrev pub read_dotted : List Token → Found
read_dotted rest = option_and_then (λ r. option_and_then (λ more. option_map (λ i. (i, more)) (read_word r.0)) (behind_mark 46 r.1)) (run_here rest)

-- a point, where all tokens and those behind it are given: a number, or a word between points
abbrev pub point_at : List Token → List Token → Option (List ℕ × List Token) → Found
point_at ts rest (Some d) = found_number ts
point_at ts rest None = read_dotted rest

-- `*label`, or `*`
abbrev pub if_label : Option (List ℕ × List Token) → Option (List Token)
if_label None = None
if_label (Some d) = if is_label d.0 then Some d.1 else None

-- a star: `**`, `*label` where an argument may stand, or `*`
abbrev pub read_star : Stand → List Token → Found
read_star s rest = or_found (behind_mark 42 rest) (operator power)
    (or_found (if is_argument s then if_label (digits_here rest) else None) alternate (Some (operator times, rest)))

-- a slash: `//` or `/`
abbrev pub read_slash : List Token → Found
read_slash rest = or_found (behind_mark 47 rest) (operator concat) (Some (operator over, rest))

-- an opening parenthesis, or a complex constant where no operand stands before it
abbrev pub read_open : Stand → List Token → List Token → Found
read_open s ts rest = or_found (if is_after s then None else behind_complex ts) constant (Some (opening, rest))

-- a mark, where all tokens and those behind it are given
abbrev pub read_mark : Stand → ℕ → List Token → List Token → Found
read_mark s c ts rest =
    if c == 40 then read_open s ts rest
    else (if c == 41 then Some (closing, rest)
    else (if c == 44 then Some (comma, rest)
    else (if c == 58 then Some (colon, rest)
    else (if c == 43 then Some (operator add, rest)
    else (if c == 45 then Some (operator subtract, rest)
    else (if c == 42 then read_star s rest
    else (if c == 47 then read_slash rest
    else (if c == 46 then point_at ts rest (digits_here rest)
    else None))))))))

-- a run that is a name
abbrev pub name_at : List ℕ → List Token → Found
name_at t rest = if is_word t then Some (name t, rest) else None

-- a kept text that is a character constant
abbrev pub characters_at : List ℕ → List Token → Found
characters_at t rest = option_map (λ v. (characters v, rest)) (quoted_value t)

-- a token of this kind and text, where all tokens and those behind it are given
abbrev pub read_token : Stand → TokenKind → List ℕ → List Token → List Token → Found
read_token s run t ts rest = name_at t rest
read_token s digits t ts rest = or_found (behind_hollerith rest) constant (found_number ts)
read_token s kept t ts rest = characters_at t rest
read_token s mark t ts rest = read_mark s (first_or_0 t) ts rest

-- the lexeme that stands here
unfoldable pub read_lexeme : Stand → List Token → Found
read_lexeme s [] = None
read_lexeme s (t ∷ ts) = read_token s t.kind t.text (t ∷ ts) ts

-- what may stand behind a lexeme
abbrev pub stand_behind : Lexeme → Stand
stand_behind (integer d) = after_operand
stand_behind constant = after_operand
stand_behind (logical b) = after_operand
stand_behind (characters v) = after_operand
stand_behind (name x) = after_operand
stand_behind alternate = after_operand
stand_behind (operator o) = at_operand
stand_behind not_sign = at_operand
stand_behind opening = at_argument
stand_behind closing = after_operand
stand_behind comma = at_argument
stand_behind colon = at_operand

-- the lexemes of the tokens, with so many turns
abbrev pub read_lexemes : ℕ → Stand → List Token → Option (List Lexeme)
read_lexemes n s [] = Some []
read_lexemes zero s (t ∷ ts) = None
read_lexemes (suc n) s (t ∷ ts) = option_and_then (λ (p : Lexeme × List Token). option_map (λ is. p.0 ∷ is) (read_lexemes n (stand_behind p.0) p.1)) (read_lexeme s (t ∷ ts))

-- the lexemes of an expression
unfoldable pub lexemes_of : List Token → Option (List Lexeme)
lexemes_of ts = read_lexemes (length ts) at_operand ts
