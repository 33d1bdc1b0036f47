-- The report: what stands in the source, in numbers.
use Rattle.std.specs.Prelude.{ℕ, List, ◌++◌, length, codes, decimal}
use Rattle.text_base.specs.Lines.{cut_lines}
use Rattle.program77.specs.Tree.{SourceProgram}

-- the numbers of a report: source units, webs of jumps, webs whose jumps are kept, array segments, and statement lines
-- with something after column 72
pub record Counts : Type 0 where
  pub units : ℕ
  pub webs : ℕ
  pub kept : ℕ
  pub arrays : ℕ
  pub cut : ℕ

-- a program of this language has no jump and no array segment
abbrev pub counts_of : List ℕ → SourceProgram → Counts
counts_of bytes p = record { units = length p.units; webs = 0; kept = 0; arrays = 0; cut = cut_lines bytes }

abbrev pub report_text : Counts → List ℕ
report_text c =
    codes "UNITS " ++ decimal c.units ++ codes "\nWEBS " ++ decimal c.webs ++ codes "\nKEPT " ++ decimal c.kept
    ++ codes "\nARRAYS " ++ decimal c.arrays ++ codes "\nCUT " ++ decimal c.cut ++ codes "\n"
