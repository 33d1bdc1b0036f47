-- What is refused of the lines of a file, before its statements are read.
use Rattle.std.specs.Prelude.{ℕ, ◌+◌, Bool, not, ◌&&◌, ◌||◌, ◌==◌, nat_lt, decimal, List, [], ◌∷◌, ◌++◌, length, drop, Option, Some, None, if◌then◌else◌}
use Rattle.std.specs.List.{position_from, zip}
use Rattle.std.specs.Option.{option_map, option_or}
use Rattle.text_base.specs.Chars.{is_digit}
use Rattle.text_base.specs.Lines.{lines, is_blank, is_comment, column_6, is_initial, label_field, label_of, statement_field}
use Rattle.text_base.specs.Kept.{kept}
use Rattle.text_base.specs.declared.refusal.Cause.{Cause}
use Rattle.text_base.specs.declared.refusal.Cause.TheVariants.{FileTooLarge, LineTooLong, BadLabelField, ContinuationFirst, TooManyContinuations, BadCharacter}
use Rattle.text_base.specs.declared.refusal.Refusal.{Refusal}
use Rattle.text_base.specs.declared.limits.TheConstants.{LONGEST_LINE, MOST_CONTINUED, LARGEST_FILE, LARGEST_PROJECT}

-- a cause and what it names
abbrev pub Fault : Type 0
Fault = Cause × List ℕ

-- The lines so far of a statement: its label, the characters of the lines that aren't refused, and how many
-- continuation lines it has since the last initial line, refused ones too.
pub record Begun : Type 0 where
  pub label : ℕ
  pub text : List ℕ
  pub continued : ℕ

-- a statement whose initial line comes now
abbrev pub begun_by : List ℕ → Begun
begun_by l = record { label = label_of l; text = []; continued = 0 }

-- ---- one line

-- a longer line is refused; its length is named
abbrev pub long_fault : List ℕ → Option Fault
long_fault l = if nat_lt LONGEST_LINE (length l) then Some (LineTooLong, decimal (length l)) else None

-- columns 1 to 5 of an initial line have digits and blanks alone; the first other column is named
abbrev pub label_column : List ℕ → Option ℕ
label_column l = position_from (λ c. not (c == 32 || is_digit c)) 1 (label_field l)

-- those of a continuation line are blank; the first other column is named
abbrev pub filled_column : List ℕ → Option ℕ
filled_column l = position_from (λ c. not (c == 32)) 1 (label_field l)

abbrev pub column_fault : Cause → Option ℕ → Option Fault
column_fault cause column = option_map (λ k. (cause, decimal k)) column

-- a label isn't of zeros alone; column 1 is named
abbrev pub zero_label : List ℕ → Option ℕ
zero_label l = if not (is_blank (label_field l)) && label_of l == 0 then Some 1 else None

abbrev pub label_fault : List ℕ → Option Fault
label_fault l = column_fault BadLabelField (option_or (label_column l) (zero_label l))

-- a character that can't stand in a statement: below 32, 127, or above it outside kept text
abbrev pub is_bad : ℕ → ℕ → Bool
is_bad c mark = nat_lt c 32 || (c == 127 || (nat_lt 127 c && mark == 0))

-- the marks of the characters of a line, after those of the lines before it
abbrev pub line_marks : Begun → List ℕ → List ℕ
line_marks b l = drop (length b.text) (kept b.label (b.text ++ statement_field l))

-- columns 6 to 72 have no bad character; the first column that has one is named
abbrev pub bad_column : Begun → List ℕ → Option ℕ
bad_column b l = if is_bad (column_6 l) 0 then Some 6 else position_from (λ p. is_bad p.0 p.1) 7 (zip (statement_field l) (line_marks b l))

abbrev pub character_fault : Begun → List ℕ → Option Fault
character_fault b l = column_fault BadCharacter (bad_column b l)

-- what is refused of an initial line
abbrev pub initial_fault : List ℕ → Option Fault
initial_fault l = option_or (long_fault l) (option_or (label_fault l) (character_fault (begun_by l) l))

-- A continuation line needs an initial line before it, and isn't the 100th since the last one; column 6 is named.
abbrev pub place_fault : Option Begun → List ℕ → Option Fault
place_fault None l = Some (ContinuationFirst, decimal 6)
place_fault (Some b) l = if b.continued == MOST_CONTINUED then Some (TooManyContinuations, decimal 6) else character_fault b l

-- what is refused of a continuation line
abbrev pub continuation_fault : Option Begun → List ℕ → Option Fault
continuation_fault b l = option_or (long_fault l) (option_or (column_fault BadLabelField (filled_column l)) (place_fault b l))

-- what is refused of a line, after the lines so far of a statement
abbrev pub line_fault : Option Begun → List ℕ → Option Fault
line_fault b l = if is_comment l then long_fault l else (if is_initial l then initial_fault l else continuation_fault b l)

-- ---- all lines

-- the statement that a line is added to, where the line is refused and where it isn't
abbrev pub begun_with : Begun → Option Fault → List ℕ → Begun
begun_with b None l = record b { text = b.text ++ statement_field l }
begun_with b (Some fault) l = b

-- An initial line that is refused is left out: the lines that follow belong to the statement before it, of which the
-- continuation lines are counted anew. Where none stands before it, they belong to one without label and characters.
abbrev pub begun_anew : Option Begun → Begun
begun_anew None = record { label = 0; text = []; continued = 0 }
begun_anew (Some b) = record b { continued = 0 }

-- the lines so far of a statement, after an initial line
abbrev pub begun_new : Option Begun → Option Fault → List ℕ → Begun
begun_new b None l = begun_with (begun_by l) None l
begun_new b (Some fault) l = begun_anew b

abbrev pub begun_more : Option Fault → List ℕ → Begun → Begun
begun_more fault l b = let more = begun_with b fault l in record more { continued = b.continued + 1 }

-- the lines so far of a statement, after one more line
abbrev pub begun_after : Option Begun → List ℕ → Option Begun
begun_after b l =
    if is_comment l then b
    else (if is_initial l then Some (begun_new b (line_fault b l) l) else option_map (begun_more (line_fault b l) l) b)

-- a fault as a refusal at a line
abbrev pub refused_at : ℕ → ℕ → Option Fault → List Refusal
refused_at file number None = []
refused_at file number (Some fault) = record { place = record { file = file; line = number }; cause = fault.0; name = fault.1 } ∷ []

-- what is refused of some lines, of which the first has this number, after the lines so far of a statement
abbrev pub line_refusals : ℕ → ℕ → Option Begun → List (List ℕ) → List Refusal
line_refusals file number b [] = []
line_refusals file number b (l ∷ ls) = refused_at file number (line_fault b l) ++ line_refusals file (number + 1) (begun_after b l) ls

-- ---- files

-- the refusal of a file of this size
abbrev pub too_large : ℕ → ℕ → Refusal
too_large file size = record { place = record { file = file; line = 0 }; cause = FileTooLarge; name = decimal size }

-- A file has at most 16 MiB. The lines of a larger one aren't read.
abbrev pub card_refusals : ℕ → List ℕ → List Refusal
card_refusals file bytes = if nat_lt LARGEST_FILE (length bytes) then too_large file (length bytes) ∷ [] else line_refusals file 1 None (lines bytes)

-- the first file at which the sum of all sizes passes 64 MiB, after so many bytes
abbrev pub passes_sum : ℕ → List ℕ → Bool
passes_sum before bytes = not (nat_lt LARGEST_PROJECT before) && nat_lt LARGEST_PROJECT (before + length bytes)

-- what is refused of the lines of some files, of which the first has this number and so many bytes before it
abbrev pub files_refusals : ℕ → ℕ → List (List ℕ) → List Refusal
files_refusals file before [] = []
files_refusals file before (bytes ∷ rest) =
    (if passes_sum before bytes then too_large file (length bytes) ∷ [] else card_refusals file bytes) ++ files_refusals (file + 1) (before + length bytes) rest
