-- What is refused of a file line by line: what is known when a line comes, in place of all that stood before it.
use Rattle.std.specs.Prelude.{ℕ, ◌+◌, ◌==◌, decimal, List, [], ◌∷◌, ◌++◌, Option, Some, None, if◌then◌else◌}
use Rattle.std.specs.List.{position_from, zip}
use Rattle.std.specs.Option.{option_map, option_or}
use Rattle.text_base.specs.Lines.{is_comment, column_6, is_initial, label_of, statement_field}
use Rattle.text_base.specs.Kept.{Scan, scan_start, marks_from, scan_all}
use Rattle.text_base.specs.LineRefusals.{Fault, long_fault, filled_column, column_fault, label_fault, is_bad, refused_at}
use Rattle.text_base.specs.declared.refusal.Cause.TheVariants.{BadLabelField, ContinuationFirst, TooManyContinuations, BadCharacter}
use Rattle.text_base.specs.declared.refusal.Refusal.{Refusal}
use Rattle.text_base.specs.declared.limits.TheConstants.{MOST_CONTINUED}
use Rattle.card_reader.specs.declared.check.State as code
use Rattle.card_reader.specs.Scan.{scan_of}

-- what the lines so far of a statement say of those that follow, and how many continuation lines they have
pub record State : Type 0 where
  pub scan : Scan
  pub continued : ℕ

-- the first column from column 7 on with a bad character
abbrev pub bad_in_field : Scan → List ℕ → Option ℕ
bad_in_field s field = position_from (λ p. is_bad p.0 p.1) 7 (zip field (marks_from s field))

-- the first column from column 6 on with one
abbrev pub bad_character : Scan → List ℕ → Option ℕ
bad_character s l = if is_bad (column_6 l) 0 then Some 6 else bad_in_field s (statement_field l)

-- such a character is refused
abbrev pub read_character : Scan → List ℕ → Option Fault
read_character s l = column_fault BadCharacter (bad_character s l)

-- what is refused of an initial line
abbrev pub read_initial : List ℕ → Option Fault
read_initial l = option_or (long_fault l) (option_or (label_fault l) (read_character (scan_start (label_of l)) l))

-- A continuation line needs an initial line before it, and isn't the 100th of its statement.
abbrev pub read_place : Option State → List ℕ → Option Fault
read_place None l = Some (ContinuationFirst, decimal 6)
read_place (Some s) l = if s.continued == MOST_CONTINUED then Some (TooManyContinuations, decimal 6) else read_character s.scan l

-- what is refused of a continuation line
abbrev pub read_continuation : Option State → List ℕ → Option Fault
read_continuation s l = option_or (long_fault l) (option_or (column_fault BadLabelField (filled_column l)) (read_place s l))

-- what is refused of a line
abbrev pub read_fault : Option State → List ℕ → Option Fault
read_fault s l = if is_comment l then long_fault l else (if is_initial l then read_initial l else read_continuation s l)

-- The statement that the lines after a refused initial line belong to: the one before it, or one without label and characters.
abbrev pub state_anew : Option State → State
state_anew None = record { scan = scan_start 0; continued = 0 }
state_anew (Some s) = record { scan = s.scan; continued = 0 }

-- the lines so far of a statement, after an initial line with this fault
abbrev pub state_new : Option State → Option Fault → List ℕ → State
state_new s None l = record { scan = scan_all (scan_start (label_of l)) (statement_field l); continued = 0 }
state_new s (Some fault) l = state_anew s

-- a statement after one more continuation line, which adds no characters where it is refused
abbrev pub state_more : Option Fault → List ℕ → State → State
state_more None l s = record { scan = scan_all s.scan (statement_field l); continued = s.continued + 1 }
state_more (Some fault) l s = record { scan = s.scan; continued = s.continued + 1 }

-- the lines so far of a statement, after a line with this fault
abbrev pub state_after : Option State → Option Fault → List ℕ → Option State
state_after s fault l = if is_comment l then s else (if is_initial l then Some (state_new s fault l) else option_map (state_more fault l) s)

-- what is refused of the lines that are left
abbrev pub read_refusals : ℕ → ℕ → Option State → List (List ℕ) → List Refusal
read_refusals file number s [] = []
read_refusals file number s (l ∷ ls) = refused_at file number (read_fault s l) ++ read_refusals file (number + 1) (state_after s (read_fault s l) l) ls

-- the state of the code
abbrev pub state_of : code.State → State
state_of state = record { scan = scan_of state.scan; continued = state.continued }
