-- The lines that are printed.
use Rattle.std.specs.Prelude.{◌≡◌, ℕ, List, ◌++◌, codes, decimal, flat_map, Option, Some, None}
use Rattle.text_base.specs.Causes.{cause_number, cause_text}
use Rattle.text_base.specs.Files.{Files}
use Rattle.text_base.specs.declared.refusal.Refusal.{Refusal}
use Rattle.program77.specs.Tree.{SourceProgram}
use Rattle.project_set.specs.Refusals.{refusals}
use Rattle.project_set.specs.Conversion.{program_report, IsConvertible, IsRefused}
use Rattle.command.specs.Words.{Command}
use Rattle.command.specs.Outputs.{outputs, StoppedAt}
use Rattle.command.specs.FromFile.{FromFile}

abbrev pub usage_line : List ℕ
usage_line = codes "USAGE: modern one FILE OUT\n"

abbrev pub memory_line : List ℕ
memory_line = codes "MEMORY\n"

abbrev pub sink_line : List ℕ
sink_line = codes "WRITE FAULT output\n"

-- a word or two, and a name
abbrev pub line_with : List ℕ → List ℕ → List ℕ
line_with words name = words ++ name ++ codes "\n"

-- the line of an output that can't be written
abbrev pub fault_line : List ℕ → List ℕ
fault_line name = line_with (codes "WRITE FAULT ") name

-- a word or two, and the name of the command's file
abbrev pub IsFileLine : List ℕ → Option Command → List ℕ → Type 0
IsFileLine words None text = ⊥
IsFileLine words (Some command) text = text ≡ line_with words command.file

-- the line of the name at which the writing of some outputs stopped
abbrev pub StoppedLine : List (List ℕ × List ℕ) → (old new : Option Files) → List ℕ → Type 0
StoppedLine outputs old new text = (name : List ℕ) × StoppedAt outputs old new name × (text ≡ fault_line name)

-- the line of the output of a program at which the writing stopped, of which the file is the source
abbrev pub IsOutputLine : Option Command → (old new : Option Files) → List ℕ → Type 0
IsOutputLine command old new text = FromFile command old (λ c bytes. (p : SourceProgram) × IsConvertible bytes p × StoppedLine (outputs c bytes p) old new text)

-- `file:line: number cause name`
abbrev pub refusal_head : List ℕ → ℕ → ℕ → List ℕ → List ℕ
refusal_head file line number cause = file ++ codes ":" ++ decimal line ++ codes ": " ++ decimal number ++ codes " " ++ cause ++ codes " "

abbrev pub refusal_line : List ℕ → Refusal → List ℕ
refusal_line file refusal = refusal_head file refusal.place.line (cause_number refusal.cause) (cause_text refusal.cause) ++ refusal.name ++ codes "\n"

-- a line for each refusal
abbrev pub refusal_lines : List ℕ → List Refusal → List ℕ
refusal_lines file refusals = flat_map (refusal_line file) refusals

-- the report of a program of which the file is the source
abbrev pub IsReport : Option Command → Option Files → List ℕ → Type 0
IsReport command held text = FromFile command held (λ c bytes. (p : SourceProgram) × IsConvertible bytes p × (text ≡ program_report bytes p))

-- the lines of all that is refused of a file
abbrev pub IsRefusalText : Option Command → Option Files → List ℕ → Type 0
IsRefusalText command held text = FromFile command held (λ c bytes. IsRefused bytes × (text ≡ refusal_lines c.file (refusals bytes)))
