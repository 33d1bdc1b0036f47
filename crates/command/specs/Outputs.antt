-- Files that are written one after another.
use Rattle.std.specs.Prelude.{◌≡◌, ◌⊎◌, ℕ, List, [], ◌∷◌, Option}
use Rattle.text_base.specs.Files.{Files, with_file, SameBut}
use Rattle.program77.specs.Tree.{SourceProgram}
use Rattle.project_set.specs.Conversion.{program_text, program_map, program_report}
use Rattle.command.specs.Words.{Command, map_name, report_name}

-- what is held, where it is told, once these outputs were set in their order
abbrev pub with_files : List (List ℕ × List ℕ) → Option Files → Option Files
with_files [] held = held
with_files (output ∷ outputs) held = with_files outputs (with_file held output.0 output.1)

-- Some first outputs stand whole, at most the next name is unknown, and each other name is as before.
abbrev pub PartlyWritten : List (List ℕ × List ℕ) → Option Files → Option Files → Type 0
PartlyWritten [] old new = new ≡ old
PartlyWritten (output ∷ outputs) old new = SameBut output.0 old new ⊎ PartlyWritten outputs (with_file old output.0 output.1) new

-- The writing stopped at this name: the outputs before it stand whole, its bytes are unknown, and each other name is as
-- before.
abbrev pub StoppedAt : List (List ℕ × List ℕ) → Option Files → Option Files → List ℕ → Type 0
StoppedAt [] old new name = ⊥
StoppedAt (output ∷ outputs) old new name = ((name ≡ output.0) × SameBut output.0 old new) ⊎ StoppedAt outputs (with_file old output.0 output.1) new name

-- three texts by the names of the outputs
abbrev pub named_texts : List ℕ → List ℕ → List ℕ → List ℕ → List (List ℕ × List ℕ)
named_texts out text map report = (out, text) ∷ (map_name out, map) ∷ (report_name out, report) ∷ []

-- what a command writes for a program, which the bytes are the source of
abbrev pub outputs : Command → List ℕ → SourceProgram → List (List ℕ × List ℕ)
outputs command bytes p = named_texts command.out (program_text bytes p) (program_map p) (program_report bytes p)
