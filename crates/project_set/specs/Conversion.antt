-- The conversion of the bytes of one file.
use Rattle.std.specs.Prelude.{◌≡◌, ◌≢◌, ℕ, List, [], Result, Ok, Err}
use Rattle.text_base.specs.Cards.{comments}
use Rattle.program77.specs.Tree.{SourceProgram}
use Rattle.program77.specs.Source.{IsSource}
use Rattle.tree90.specs.Printed.{printed}
use Rattle.project_set.specs.MapText.{map_text, map_lines}
use Rattle.project_set.specs.Refusals.{refusals}
use Rattle.project_set.specs.Report.{counts_of, report_text}
use Rattle.project_set.specs.Rewrite.{written}
use Rattle.project_set.specs.declared.conversion.ConvertError.{ConvertError}
use Rattle.project_set.specs.declared.conversion.ConvertError.TheVariants.{Refused, Memory}

-- the texts that are written for a program with the comments of the bytes of its source
abbrev pub program_text : List ℕ → SourceProgram → List ℕ
program_text bytes p = printed (written (comments bytes) p)

abbrev pub program_map : SourceProgram → List ℕ
program_map p = map_text (map_lines p)

abbrev pub program_report : List ℕ → SourceProgram → List ℕ
program_report bytes p = report_text (counts_of bytes p)

-- the bytes are the source of the program, and nothing is refused of them
pub record IsConvertible (bytes : List ℕ) (p : SourceProgram) : Type 0 where
  pub is_source : IsSource 0 bytes p
  pub accepted : refusals bytes ≡ []

-- the bytes are the source of a program that is converted, and these are its texts
pub record IsConversion (bytes text map report : List ℕ) : Type 0 where
  pub program : SourceProgram
  pub is_converted : IsConvertible bytes program
  pub is_text : text ≡ program_text bytes program
  pub is_map : map ≡ program_map program
  pub is_report : report ≡ program_report bytes program

-- something is refused of the bytes
abbrev pub IsRefused : List ℕ → Type 0
IsRefused bytes = refusals bytes ≢ []

-- a refusal has all that is refused of the bytes, and there is something
abbrev pub RefusesWith : {T : Type 0} → List ℕ → Result T ConvertError → Type 0
RefusesWith bytes (Ok value) = Unit {0}
RefusesWith bytes (Err (Refused list)) = (list ≡ refusals bytes) × IsRefused bytes
RefusesWith bytes (Err Memory) = Unit {0}
