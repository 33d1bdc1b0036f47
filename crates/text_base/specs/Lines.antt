-- The lines of a file of fixed form, and their columns (X3.9 section 3.2).
use Rattle.std.specs.Prelude.{ℕ, ◌-◌, Bool, false, not, ◌&&◌, ◌||◌, ◌==◌, List, [], ◌∷◌, ◌++◌, length, take, drop, map, filter, replicate, slice_index, slice_index_or, if◌then◌else◌}
use Rattle.std.specs.List.{list_all, count_by}
use Rattle.std.specs.Str.Parse.{digits_value}
use Rattle.text_base.specs.Chars.{is_digit}
use Rattle.text_base.specs.declared.limits.TheConstants.{LAST_COLUMN}

-- a byte before the first of some lines
abbrev pub with_first : ℕ → List (List ℕ) → List (List ℕ)
with_first c [] = (c ∷ []) ∷ []
with_first c (l ∷ ls) = (c ∷ l) ∷ ls

-- The file cut at each LF. What follows the last LF is a line unless it is nothing.
abbrev pub cut : List ℕ → List (List ℕ)
cut [] = []
cut (c ∷ t) = if c == 10 then [] ∷ cut t else with_first c (cut t)

-- a line without the CR at its end
abbrev pub without_return : List ℕ → List ℕ
without_return l = if slice_index l (length l - 1) == 13 then take (length l - 1) l else l

abbrev pub lines : List ℕ → List (List ℕ)
lines bytes = map without_return (cut bytes)

abbrev pub is_blank : List ℕ → Bool
is_blank = list_all (λ c. c == 32)

-- C, c, * and ! in column 1
abbrev pub is_mark : ℕ → Bool
is_mark c = c == 67 || c == 99 || c == 42 || c == 33

abbrev pub is_marked : List ℕ → Bool
is_marked [] = false
is_marked (c ∷ l) = is_mark c

-- A comment has a mark in column 1, or nothing but blanks in columns 1 to 72 (X3.9 section 3.2.1). Every other line is
-- one of a statement.
abbrev pub is_comment : List ℕ → Bool
is_comment l = is_marked l || is_blank (take LAST_COLUMN l)

-- the byte in column 6, which is a blank where the line is shorter
abbrev pub column_6 : List ℕ → ℕ
column_6 l = slice_index_or l 5 32

-- of the lines of a statement, an initial line has a blank or 0 in column 6, and a continuation line anything else
-- (X3.9 sections 3.2.2 and 3.2.3)
abbrev pub is_initial : List ℕ → Bool
is_initial l = column_6 l == 32 || column_6 l == 48

-- columns 1 to 5
abbrev pub label_field : List ℕ → List ℕ
label_field l = take 5 l

-- the statement label of an initial line, 0 where it has none: the digits of its columns 1 to 5 (X3.9 section 3.4)
abbrev pub label_of : List ℕ → ℕ
label_of l = digits_value 10 (filter is_digit (label_field l))

-- columns 7 to 72 of a line, which counts as padded with blanks to column 72
abbrev pub statement_field : List ℕ → List ℕ
statement_field l = let text = take (LAST_COLUMN - 6) (drop 6 l) in text ++ replicate ((LAST_COLUMN - 6) - length text) 32

-- a line of a statement that has something other than a blank after column 72
abbrev pub is_cut : List ℕ → Bool
is_cut l = not (is_comment l) && not (is_blank (drop LAST_COLUMN l))

-- how many lines of a file are cut off at column 72
abbrev pub cut_lines : List ℕ → ℕ
cut_lines bytes = count_by is_cut (lines bytes)
