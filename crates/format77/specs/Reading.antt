-- The reading of a format as a function: laws say that it gives what the pieces spell.
use Rattle.std.specs.Prelude.{ℕ, zero, suc, Bool, true, false, not, ◌&&◌, ◌||◌, ◌==◌, nat_le, List, [], ◌∷◌, ◌++◌, length, Option, Some, None, if◌then◌else◌}
use Rattle.std.specs.Option.{option_map, option_and_then}
use Rattle.std.specs.Str.Parse.{digits_value}
use Rattle.text_base.specs.Chars.{is_digit}
use Rattle.text_base.specs.Pieces.{Piece, plain, whole, broken}
use Rattle.scan77.specs.FirstPiece.{before_plain}
use Rattle.text_base.specs.Formats.{integers, logicals, texts, blanks, text, FormatItem, edit, record_end, group, FormatItems, items_of, FormatLexeme, descriptor, slash, opening, closing, comma, colon, scale, other, is_unsigned, GREATEST_IN_FORMAT, is_list, in_trees, refused_words}

-- ---- characters

-- the digits that stand here, and what is left behind them
abbrev pub digits_here : List Piece → List ℕ
digits_here [] = []
digits_here (plain c ∷ rest) = if is_digit c then c ∷ digits_here rest else []
digits_here (whole t ∷ rest) = []
digits_here (broken t ∷ rest) = []

abbrev pub behind_digits : List Piece → List Piece
behind_digits [] = []
behind_digits (plain c ∷ rest) = if is_digit c then behind_digits rest else plain c ∷ rest
behind_digits (whole t ∷ rest) = whole t ∷ rest
behind_digits (broken t ∷ rest) = broken t ∷ rest

-- the character that stands here, 0 where none does
abbrev pub character_here : List Piece → ℕ
character_here [] = 0
character_here (plain c ∷ rest) = c
character_here (whole t ∷ rest) = 0
character_here (broken t ∷ rest) = 0

-- what is left behind one piece
abbrev pub behind_one : List Piece → List Piece
behind_one [] = []
behind_one (p ∷ rest) = rest

-- ---- numbers

-- the number that digits stand for, if it may stand in a format
abbrev pub number_of : ℕ → List ℕ → Option ℕ
number_of least digits = if is_unsigned digits && (nat_le least (digits_value 10 digits) && nat_le (digits_value 10 digits) GREATEST_IN_FORMAT) then Some (digits_value 10 digits) else None

-- digits are written
abbrev pub is_written : List ℕ → Bool
is_written [] = false
is_written (c ∷ t) = true

-- how often an item stands, by whether a number is written before it, and the number: once where none is
abbrev pub count_by : Bool → Option ℕ → Option ℕ
count_by written number = if written then number else Some 1

abbrev pub count_of : List ℕ → Option ℕ
count_of digits = count_by (is_written digits) (number_of 1 digits)

-- ---- accepted lexemes

-- what has been read, and what is left
abbrev pub Read : Type 0
Read = Option (FormatLexeme × List Piece)

-- where it is read, a lexeme, and what is left
abbrev pub giving : List Piece → Option FormatLexeme → Read
giving rest lexeme = option_map (λ i. (i, rest)) lexeme

-- Iw.m
abbrev pub least_of : ℕ → ℕ → ℕ → Option FormatLexeme
least_of r w m = if nat_le m w then Some (descriptor (integers r w (Some m))) else None

-- behind `I` and its width
abbrev pub integers_at : ℕ → ℕ → List Piece → Read
integers_at r w rest =
    if character_here rest == 46 then giving (behind_digits (behind_one rest)) (option_and_then (least_of r w) (number_of 0 (digits_here (behind_one rest))))
    else Some (descriptor (integers r w None), rest)

-- `A`, by whether a width is written, and the width
abbrev pub texts_by : ℕ → Bool → Option ℕ → Option FormatLexeme
texts_by r written width = if written then option_map (λ w. descriptor (texts r (Some w))) width else Some (descriptor (texts r None))

abbrev pub texts_of : ℕ → List ℕ → Option FormatLexeme
texts_of r digits = texts_by r (is_written digits) (number_of 1 digits)

-- the characters that those behind an apostrophe stand for, up to the apostrophe at the end
abbrev pub undoubled : List ℕ → Option (List ℕ)
undoubled [] = None
undoubled (c ∷ []) = if c == 39 then Some [] else None
undoubled (c ∷ d ∷ t) = if c == 39 then (if d == 39 then option_map (λ v. 39 ∷ v) (undoubled t) else None) else option_map (λ v. c ∷ v) (undoubled (d ∷ t))

-- the same, one character after another, by whether no single apostrophe stands before them
abbrev pub undoubled_from : Bool → List ℕ → Option (List ℕ)
undoubled_from even [] = if even then None else Some []
undoubled_from even (c ∷ t) =
    if c == 39 then (if even then undoubled_from false t else option_map (λ v. 39 ∷ v) (undoubled_from true t))
    else (if even then option_map (λ v. c ∷ v) (undoubled_from true t) else None)

-- an apostrophe text isn't empty
abbrev pub text_of : List ℕ → Option FormatLexeme
text_of [] = None
text_of (c ∷ t) = Some (descriptor (text (c ∷ t)))

abbrev pub quoted_of : List ℕ → Option FormatLexeme
quoted_of [] = None
quoted_of (c ∷ t) = if c == 39 then option_and_then text_of (undoubled t) else None

-- behind the `H` of a text with so many characters
abbrev pub counted_at : ℕ → List Piece → Read
counted_at n (whole t ∷ rest) = if length t == n then Some (descriptor (text t), rest) else None
counted_at n _ = None

-- ---- lexemes that are refused

-- digits stand here
abbrev pub is_at_digit : List Piece → Bool
is_at_digit pieces = is_digit (character_here pieces)

-- the letter of an item that may stand behind a number, but not without one
abbrev pub wants_number : ℕ → Bool
wants_number c = c == 72 || c == 88

-- Behind E and digits, if they stand here. Behind a scale factor they are one's own, unless a point shows that they are those
-- of the next descriptor.
abbrev pub behind_exponent : Bool → List Piece → List Piece
behind_exponent free pieces =
    if character_here pieces == 69 && (is_at_digit (behind_one pieces) && not (free && character_here (behind_digits (behind_one pieces)) == 46)) then behind_digits (behind_one pieces) else pieces

-- behind a point and digits, and E and digits, if they stand here
abbrev pub behind_fraction : Bool → List Piece → List Piece
behind_fraction free pieces = if character_here pieces == 46 && is_at_digit (behind_one pieces) then behind_exponent free (behind_digits (behind_one pieces)) else pieces

-- Behind the numbers that follow the letters of a descriptor, if they stand here. Behind a scale factor digits are its own,
-- unless a letter shows that they are the next item's.
abbrev pub behind_widths : Bool → List Piece → List Piece
behind_widths free pieces = if is_at_digit pieces && not (free && wants_number (character_here (behind_digits pieces))) then behind_fraction free (behind_digits pieces) else pieces

-- behind T, which L or R may follow, or S, which P or S may follow
abbrev pub behind_second : ℕ → ℕ → List Piece → List Piece
behind_second c d pieces = if character_here pieces == c || character_here pieces == d then behind_one pieces else pieces

-- ---- one lexeme

-- what begins with a character, behind a number or a sign
pub data Sort : Type 0 where
  letter_i : Sort
  letter_l : Sort
  letter_a : Sort
  letter_x : Sort
  letter_h : Sort
  letter_p : Sort
  letter_t : Sort
  letter_s : Sort
  letter_b : Sort
  -- E, F, D or G
  letter_e : Sort
  an_opening : Sort
  a_closing : Sort
  a_comma : Sort
  a_slash : Sort
  a_colon : Sort
  a_sign : Sort
  nothing : Sort

abbrev pub sort_of : ℕ → Sort
sort_of c =
    if c == 73 then letter_i else if c == 76 then letter_l else if c == 65 then letter_a else if c == 88 then letter_x else if c == 72 then letter_h
    else if c == 80 then letter_p else if c == 84 then letter_t else if c == 83 then letter_s else if c == 66 then letter_b
    else if c == 69 || (c == 70 || (c == 68 || c == 71)) then letter_e
    else if c == 40 then an_opening else if c == 41 then a_closing else if c == 44 then a_comma else if c == 47 then a_slash else if c == 58 then a_colon
    else if c == 43 || c == 45 then a_sign else nothing

-- a refused descriptor of this sort, behind its first letter
abbrev pub refused_at : Sort → List Piece → Read
refused_at letter_p rest = Some (scale, behind_widths true rest)
refused_at letter_t rest = Some (other, behind_widths false (behind_second 76 82 rest))
refused_at letter_s rest = Some (other, behind_widths false (behind_second 80 83 rest))
refused_at letter_b rest = if character_here rest == 78 || character_here rest == 90 then Some (other, behind_widths false (behind_one rest)) else None
refused_at letter_e rest = Some (other, behind_widths false rest)
refused_at _ rest = None

-- behind a sign: digits and a refused descriptor
abbrev pub signed_at : List Piece → Read
signed_at rest = if is_at_digit rest then refused_at (sort_of (character_here (behind_digits rest))) (behind_one (behind_digits rest)) else None

-- where no number stands before it
abbrev pub unless_written : Bool → Read → Read
unless_written written read = if written then None else read

-- behind a character of this sort, by whether a number is written before it, and the number
abbrev pub lexeme_by : Sort → Bool → Option ℕ → List Piece → Read
lexeme_by letter_i written number rest = option_and_then (λ r. option_and_then (λ w. integers_at r w (behind_digits rest)) (number_of 1 (digits_here rest))) (count_by written number)
lexeme_by letter_l written number rest = giving (behind_digits rest) (option_and_then (λ r. option_map (λ w. descriptor (logicals r w)) (number_of 1 (digits_here rest))) (count_by written number))
lexeme_by letter_a written number rest = giving (behind_digits rest) (option_and_then (λ r. texts_of r (digits_here rest)) (count_by written number))
lexeme_by letter_x written number rest = giving rest (option_map (λ n. descriptor (blanks n)) number)
lexeme_by letter_h written number rest = option_and_then (λ n. counted_at n rest) number
lexeme_by an_opening written number rest = giving rest (option_map opening (count_by written number))
lexeme_by a_closing written number rest = unless_written written (Some (closing, rest))
lexeme_by a_comma written number rest = unless_written written (Some (comma, rest))
lexeme_by a_slash written number rest = unless_written written (Some (slash, rest))
lexeme_by a_colon written number rest = unless_written written (Some (colon, rest))
lexeme_by a_sign written number rest = unless_written written (signed_at rest)
lexeme_by letter_p written number rest = refused_at letter_p rest
lexeme_by letter_t written number rest = refused_at letter_t rest
lexeme_by letter_s written number rest = refused_at letter_s rest
lexeme_by letter_b written number rest = refused_at letter_b rest
lexeme_by letter_e written number rest = refused_at letter_e rest
lexeme_by nothing written number rest = None

-- behind digits and a character of this sort
abbrev pub lexeme_of : Sort → List ℕ → List Piece → Read
lexeme_of s digits rest = lexeme_by s (is_written digits) (number_of 1 digits) rest

abbrev pub lexeme_behind : List ℕ → List Piece → Read
lexeme_behind ds [] = None
lexeme_behind ds (plain c ∷ rest) = lexeme_of (sort_of c) ds rest
lexeme_behind ds (whole t ∷ rest) = unless_written (is_written ds) (giving rest (quoted_of t))
lexeme_behind ds (broken t ∷ rest) = None

-- the lexeme that stands here, and what is left behind it
unfoldable pub lexeme_at : List Piece → Read
lexeme_at pieces = lexeme_behind (digits_here pieces) (behind_digits pieces)

-- the lexemes of pieces, with so many turns
abbrev pub lexemes_in : ℕ → List Piece → Option (List FormatLexeme)
lexemes_in n [] = Some []
lexemes_in zero (p ∷ ps) = None
lexemes_in (suc n) (p ∷ ps) = option_and_then (λ (r : FormatLexeme × List Piece). option_map (λ is. r.0 ∷ is) (lexemes_in n r.1)) (lexeme_at (p ∷ ps))

-- ---- the tree

-- an open group: how often it stands, and the items before it
pub record Level : Type 0 where
  pub count : ℕ
  pub before : List FormatItem

-- the items of lexemes, where these groups are open, the innermost first, and these items stand behind the innermost
abbrev pub build_from : List Level → List FormatItem → List FormatLexeme → Option FormatItems
build_from [] xs [] = Some (items_of xs)
build_from (l ∷ ls) xs [] = None
build_from levels xs (descriptor d ∷ is) = build_from levels (xs ++ edit d ∷ []) is
build_from levels xs (slash ∷ is) = build_from levels (xs ++ record_end ∷ []) is
build_from levels xs (opening r ∷ is) = build_from (record { count = r; before = xs } ∷ levels) [] is
build_from [] xs (closing ∷ is) = None
build_from (l ∷ ls) xs (closing ∷ is) = build_from ls (l.before ++ group l.count (items_of xs) ∷ []) is
build_from levels xs (comma ∷ is) = None
build_from levels xs (colon ∷ is) = None
build_from levels xs (scale ∷ is) = None
build_from levels xs (other ∷ is) = None

-- ---- formats

-- the pieces between the parentheses
abbrev pub inside_of : List Piece → Option (List Piece)
inside_of [] = None
inside_of (plain c ∷ rest) = if c == 40 then before_plain 41 rest else None
inside_of (whole t ∷ rest) = None
inside_of (broken t ∷ rest) = None

-- the lexemes of a format, and its tree, in which each refused one stands for an item
abbrev pub tree_of : List FormatLexeme → Option (List FormatLexeme × FormatItems)
tree_of lexemes = if is_list lexemes then option_map (λ items. (lexemes, items)) (build_from [] [] (in_trees lexemes)) else None

unfoldable pub wide_of : List Piece → Option (List FormatLexeme × FormatItems)
wide_of pieces = option_and_then (λ inside. option_and_then tree_of (lexemes_in (length inside) inside)) (inside_of pieces)

-- the tree, the word for which a part is refused, or nothing where no format is spelled
pub data Outcome : Type 0 where
  accepted : FormatItems → Outcome
  refused : List ℕ → Outcome
  no_format : Outcome

abbrev pub outcome_by : FormatItems → List (List ℕ) → Outcome
outcome_by items [] = accepted items
outcome_by items (w ∷ ws) = refused w

abbrev pub outcome_from : ℕ → Option (List FormatLexeme × FormatItems) → Outcome
outcome_from depth None = no_format
outcome_from depth (Some r) = outcome_by r.1 (refused_words depth (opening 1 ∷ r.0))

-- what the pieces are read as, where so many parentheses are open before them
abbrev pub format_of : ℕ → List Piece → Outcome
format_of depth pieces = outcome_from depth (wide_of pieces)
