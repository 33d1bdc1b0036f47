-- What the program answers before anything is printed, and how a status comes.
use Rattle.std.specs.Prelude.{◌≡◌, ◌⊎◌, ℕ, List, codes, Option, None, IfSome}
use Rattle.text_base.specs.Files.{Files}
use Rattle.program77.specs.Tree.{SourceProgram}
use Rattle.project_set.specs.Conversion.{program_report, IsConvertible}
use Rattle.command.specs.Words.{Command}
use Rattle.command.specs.Outputs.{with_files, outputs}
use Rattle.command.specs.FromFile.{FromFile, LacksName, PartlyConverts, Headline}
use Rattle.command.specs.Lines.{usage_line, memory_line, IsFileLine, IsOutputLine, IsRefusalText}
use Rattle.command.specs.declared.status.Status.{Status}
use Rattle.command.specs.declared.status.Status.TheVariants.{Done, Refused, Usage, ReadFault, Missing, WriteFault, Memory}

-- the status is that, or `Memory`
abbrev pub IsOrMemory : Status → Status → Type 0
IsOrMemory status expected = (status ≡ expected) ⊎ (status ≡ Memory)

-- the status comes exactly where the fact holds, or `Memory` in its place
pub record ExactlyWhere (expected status : Status) (fact : Type 0) : Type 0 where
  pub only : status ≡ expected → fact
  pub always : fact → IsOrMemory status expected

-- what may be answered where no fault and no absence was counted
abbrev pub IsComplete : Status → Type 0
IsComplete status = (status ≡ Done) ⊎ (status ≡ Refused) ⊎ (status ≡ Memory)

-- whose text is owed whole: a sink that fails changes the status
abbrev pub IsMain : Status → Type 0
IsMain Done = Unit {0}
IsMain Refused = Unit {0}
IsMain Usage = ⊥
IsMain ReadFault = ⊥
IsMain Missing = ⊥
IsMain WriteFault = ⊥
IsMain Memory = ⊥

-- the statuses that come before any output is written
abbrev pub IsBeforeWrites : Status → Type 0
IsBeforeWrites Done = ⊥
IsBeforeWrites Refused = Unit {0}
IsBeforeWrites Usage = Unit {0}
IsBeforeWrites ReadFault = Unit {0}
IsBeforeWrites Missing = Unit {0}
IsBeforeWrites WriteFault = ⊥
IsBeforeWrites Memory = ⊥

-- the contents are as before, or some first outputs of a program were set
abbrev pub IsPartly : Option Command → (old new : Option Files) → Type 0
IsPartly command old new = (new ≡ old) ⊎ FromFile command old (PartlyConverts old new)

-- The status that is answered, with what was counted for it (a read fault, an absence, a write fault, a write that wanted
-- memory), what is held then, and the text for it. Where memory is wanted the contents are as before, unless a write wanted it.
abbrev pub Answers : Status → Option Command → (old new : Option Files) → (unread absent unwritten denied : Type 0) → List ℕ → Type 0
Answers Done command old new unread absent unwritten denied text =
    FromFile command old (λ c bytes. (p : SourceProgram) × IsConvertible bytes p × (new ≡ with_files (outputs c bytes p) old)
    × (text ≡ program_report bytes p) × IfSome new (Headline c bytes))
Answers Refused command old new unread absent unwritten denied text = (new ≡ old) × IsRefusalText command old text
Answers Usage command old new unread absent unwritten denied text = (new ≡ old) × (command ≡ None) × (text ≡ usage_line)
Answers ReadFault command old new unread absent unwritten denied text = (new ≡ old) × unread × IsFileLine (codes "READ FAULT ") command text
Answers Missing command old new unread absent unwritten denied text = (new ≡ old) × absent × LacksName command old × IsFileLine (codes "MISSING ") command text
Answers WriteFault command old new unread absent unwritten denied text =
    unwritten × IsOutputLine command old new text
Answers Memory command old new unread absent unwritten denied text = ((new ≡ old) ⊎ denied) × (text ≡ memory_line)
