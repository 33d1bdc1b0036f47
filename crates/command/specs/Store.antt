-- How the writing of outputs ends.
use Rattle.std.specs.Prelude.{◌≡◌, ◌⊎◌, ℕ, List, Option}
use Rattle.text_base.specs.Files.{Files}
use Rattle.command.specs.Outputs.{with_files}
use Rattle.command.specs.Lines.{memory_line, StoppedLine}
use Rattle.command.specs.declared.status.Status.{Status}
use Rattle.command.specs.declared.status.Status.TheVariants as status

-- What the writing of some texts answers, where the last of them is the report. Where memory is wanted the contents are as
-- before, unless a write wanted it.
abbrev pub Wrote : Status → List (List ℕ × List ℕ) → List ℕ → (old new : Option Files) → (unwritten denied : Type 0) → List ℕ → Type 0
Wrote status.Done texts report old new unwritten denied text = (new ≡ with_files texts old) × (text ≡ report)
Wrote status.Refused texts report old new unwritten denied text = ⊥
Wrote status.Usage texts report old new unwritten denied text = ⊥
Wrote status.ReadFault texts report old new unwritten denied text = ⊥
Wrote status.Missing texts report old new unwritten denied text = ⊥
Wrote status.WriteFault texts report old new unwritten denied text = unwritten × StoppedLine texts old new text
Wrote status.Memory texts report old new unwritten denied text = ((new ≡ old) ⊎ denied) × (text ≡ memory_line)
