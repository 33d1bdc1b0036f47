-- What a map text and a report text tell.
use Rattle.std.specs.Prelude.{◌≡◌, ℕ, ◌<◌, ◌^◌, Bool, ◌||◌, ◌==◌, IsTrue, All, List}
use Rattle.std.specs.List.{list_all}
use Rattle.text_base.specs.Chars.{is_name_byte}
use Rattle.program77.specs.Tree.{SourceProgram}
use Rattle.project_set.specs.Conversion.{IsConvertible}
use Rattle.project_set.specs.MapText.{MapLine, map_lines, map_text}
use Rattle.project_set.specs.Report.{Counts, counts_of, report_text}

-- letters, digits, underscores, and dots between names
abbrev pub are_named : List ℕ → Bool
are_named = list_all (λ c. is_name_byte c || c == 46)

-- a line of a map whose names are such texts, and whose numbers fit 64 bits
pub record IsWellNamed (l : MapLine) : Type 0 where
  pub sequence : IsTrue (are_named l.sequence)
  pub home : IsTrue (are_named l.home)
  pub object : IsTrue (are_named l.object)
  pub first : l.first < 2 ^ 64
  pub count : l.count < 2 ^ 64
  pub at : l.at < 2 ^ 64

-- A map text has one list of such lines, and those of the map of a source that is converted are such.
abbrev pub MapTextsTellLines : Type 0
MapTextsTellLines = (ls ms : List MapLine) → All IsWellNamed ls → All IsWellNamed ms → map_text ls ≡ map_text ms → ls ≡ ms

abbrev pub LinesAreWellNamed : Type 0
LinesAreWellNamed = (bytes : List ℕ) (p : SourceProgram) → IsConvertible bytes p → All IsWellNamed (map_lines p)

-- numbers that fit 64 bits
pub record AreSmall (c : Counts) : Type 0 where
  pub units : c.units < 2 ^ 64
  pub webs : c.webs < 2 ^ 64
  pub kept : c.kept < 2 ^ 64
  pub arrays : c.arrays < 2 ^ 64
  pub cut : c.cut < 2 ^ 64

-- A report text has one list of such counts, and those of a source that is converted are such.
abbrev pub ReportTextsTellCounts : Type 0
ReportTextsTellCounts = (c d : Counts) → AreSmall c → AreSmall d → report_text c ≡ report_text d → c ≡ d

abbrev pub CountsAreSmall : Type 0
CountsAreSmall = (bytes : List ℕ) (p : SourceProgram) → IsConvertible bytes p → AreSmall (counts_of bytes p)
