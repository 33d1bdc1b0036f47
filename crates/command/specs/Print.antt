-- What is printed on a sink that may fail.
use Rattle.std.specs.Prelude.{◌≡◌, ◌⊎◌, ℕ, ◌≤◌, List, ◌++◌, codes, Option}
use Rattle.text_base.specs.Faults.{Rose}
use Rattle.text_base.specs.Files.{Files}
use Rattle.program77.specs.Tree.{SourceProgram}
use Rattle.project_set.specs.Conversion.{program_report, IsConvertible}
use Rattle.command.specs.Words.{Command}
use Rattle.command.specs.Outputs.{with_files, outputs}
use Rattle.command.specs.FromFile.{FromFile}
use Rattle.command.specs.Lines.{usage_line, memory_line, sink_line, IsFileLine, IsOutputLine, IsReport, IsRefusalText}
use Rattle.command.specs.Answers.{IsMain}
use Rattle.command.specs.declared.status.Status.{Status}
use Rattle.command.specs.declared.status.Status.TheVariants.{Done, Refused, Usage, ReadFault, Missing, WriteFault, Memory}

-- how many calls of a sink have failed, and how many have wanted memory
pub record SinkCounts : Type 0 where
  pub faults : ℕ
  pub denials : ℕ

-- a call has failed since
abbrev pub HasFailed : (before now : SinkCounts) → Type 0
HasFailed before now = Rose before.faults now.faults

-- a call has wanted memory since
abbrev pub WasDenied : (before now : SinkCounts) → Type 0
WasDenied before now = Rose before.denials now.denials

-- a call has failed or wanted memory since
abbrev pub IsTroubled : (before now : SinkCounts) → Type 0
IsTroubled before now = HasFailed before now ⊎ WasDenied before now

-- no count has fallen since
abbrev pub NoneFell : (before now : SinkCounts) → Type 0
NoneFell before now = (before.faults ≤ now.faults) × (before.denials ≤ now.denials)

abbrev pub IsPrefix : List ℕ → List ℕ → Type 0
IsPrefix part whole = (rest : List ℕ) × (whole ≡ part ++ rest)

-- the whole line, or a first part of it where the sink was in trouble since
abbrev pub PrintsLine : (before now : SinkCounts) → (line text : List ℕ) → Type 0
PrintsLine before now line text = (text ≡ line) ⊎ (IsTroubled before now × IsPrefix text line)

-- The main text was cut off for a cause: a first part of it stands. The line that is owed for that comes after it, and is whole
-- unless the sink was in trouble once more, after the cut.
pub record PrintsCut (Cause : (before now : SinkCounts) → Type 0) (before now : SinkCounts) (main line text : List ℕ) : Type 0 where
  pub cut : SinkCounts
  pub until_cut : NoneFell before cut
  pub cause : Cause before cut
  pub since_cut : NoneFell cut now
  pub part : List ℕ
  pub rest : List ℕ
  pub all : text ≡ part ++ rest
  pub first : IsPrefix part main
  pub line_after : PrintsLine cut now line rest

-- The status and the text that are wanted, the status that comes and what is printed, by the counts of the sink before and now.
abbrev pub Says : (before now : SinkCounts) → (wanted : Status) (whole : List ℕ) (status : Status) (text : List ℕ) → Type 0
Says before now wanted whole status text =
    ((status ≡ wanted) × (text ≡ whole))
    ⊎ ((status ≡ wanted) × (IsMain wanted → ⊥) × IsTroubled before now × IsPrefix text whole)
    ⊎ (IsMain wanted × (status ≡ WriteFault) × PrintsCut HasFailed before now whole sink_line text)
    ⊎ (IsMain wanted × (status ≡ Memory) × PrintsCut WasDenied before now whole memory_line text)

-- a line by some form, or a first part of it where the sink was in trouble
abbrev pub PrintsSome : (before now : SinkCounts) → (List ℕ → Type 0) → List ℕ → Type 0
PrintsSome before now form text = (line : List ℕ) × form line × PrintsLine before now line text

-- the report of a program whose outputs were set, or the lines of a refusal that left the contents as they were
abbrev pub IsMainText : Option Command → (old new : Option Files) → List ℕ → Type 0
IsMainText command old new text =
    FromFile command old (λ c bytes. (p : SourceProgram) × IsConvertible bytes p × (new ≡ with_files (outputs c bytes p) old) × (text ≡ program_report bytes p))
    ⊎ ((new ≡ old) × IsRefusalText command old text)

-- a first part of the report or of the refusals, and then the line
abbrev pub PrintsMainCut : ((before now : SinkCounts) → Type 0) → (before now : SinkCounts) → Option Command → (old new : Option Files) → (line text : List ℕ) → Type 0
PrintsMainCut Cause before now command old new line text = (main : List ℕ) × IsMainText command old new main × PrintsCut Cause before now main line text

-- What is printed at each status. An output's name is printed only where a write was counted as a fault, `output` only where a
-- call of the sink was.
abbrev pub Prints : Status → Option Command → (old new : Option Files) → (unwritten : Type 0) → (before now : SinkCounts) → List ℕ → Type 0
Prints Done command old new unwritten before now text = IsReport command old text
Prints Refused command old new unwritten before now text = IsRefusalText command old text
Prints Usage command old new unwritten before now text = PrintsLine before now usage_line text
Prints ReadFault command old new unwritten before now text = PrintsSome before now (IsFileLine (codes "READ FAULT ") command) text
Prints Missing command old new unwritten before now text = PrintsSome before now (IsFileLine (codes "MISSING ") command) text
Prints WriteFault command old new unwritten before now text =
    (unwritten × PrintsSome before now (IsOutputLine command old new) text)
    ⊎ PrintsMainCut HasFailed before now command old new sink_line text
Prints Memory command old new unwritten before now text =
    PrintsLine before now memory_line text
    ⊎ PrintsMainCut WasDenied before now command old new memory_line text
