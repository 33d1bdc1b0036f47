-- What follows from the bytes of the command's file.
use Rattle.std.specs.Prelude.{◌≡◌, ℕ, List, [], Option, Some, None}
use Rattle.std.specs.FinMap.{get}
use Rattle.text_base.specs.Files.{Files, HasFile, LacksFile}
use Rattle.program77.specs.Tree.{SourceProgram}
use Rattle.project_set.specs.Refusals.{refusals}
use Rattle.project_set.specs.Conversion.{IsConvertible}
use Rattle.project_set.specs.Laws.{IsFaithful}
use Rattle.command.specs.Words.{Command, map_name}
use Rattle.command.specs.Outputs.{with_files, PartlyWritten, outputs}

-- It is so of a command and of some bytes, which are those of its file where the contents are told.
abbrev pub FromFile : Option Command → Option Files → (Command → List ℕ → Type 0) → Type 0
FromFile None held P = ⊥
FromFile (Some command) held P = (bytes : List ℕ) × HasFile held command.file bytes × P command bytes

-- there is a command, and where the contents are told its file isn't held
abbrev pub LacksName : Option Command → Option Files → Type 0
LacksName None held = ⊥
LacksName (Some command) held = LacksFile held command.file

-- nothing is refused of the bytes
abbrev pub IsAccepted : List ℕ → Type 0
IsAccepted bytes = refusals bytes ≡ []

-- the bytes are the source of a program that is converted, and its outputs were set
abbrev pub Converts : (old new : Option Files) → Command → List ℕ → Type 0
Converts old new command bytes = (p : SourceProgram) × IsConvertible bytes p × (new ≡ with_files (outputs command bytes p) old)

-- the bytes are the source of a program that is converted, and its outputs were set up to some point
abbrev pub PartlyConverts : (old new : Option Files) → Command → List ℕ → Type 0
PartlyConverts old new command bytes = (p : SourceProgram) × IsConvertible bytes p × PartlyWritten (outputs command bytes p) old new

-- The bytes are the source of a program of which nothing is refused, and the text under OUT does the same by the map beside it.
pub record Headline (command : Command) (bytes : List ℕ) (files : Files) : Type 0 where
  pub text : List ℕ
  pub is_text : get files command.out ≡ Some text
  pub map : List ℕ
  pub is_map : get files (map_name command.out) ≡ Some map
  pub faithful : IsFaithful bytes text map
