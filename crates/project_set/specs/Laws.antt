-- What holds of what is written for a source.
use Rattle.std.specs.Prelude.{◌≡◌, ℕ, List}
use Rattle.text_base.specs.Cards.{comments}
use Rattle.program77.specs.Tree.{SourceProgram}
use Rattle.tree90.specs.Tree.{FreeProgram}
use Rattle.tree90.specs.FreeText.{SpellsText}
use Rattle.tree90.specs.Proper.{IsProper}
use Rattle.project_set.specs.Conversion.{IsConvertible, program_text, program_map}
use Rattle.project_set.specs.MapText.{MapLine, map_text}
use Rattle.project_set.specs.Match.{DoesTheSame}
use Rattle.project_set.specs.Positions.{source_positions, written_positions}
use Rattle.project_set.specs.Rewrite.{written}
use Rattle.project_set.specs.Skeleton.{source_skeletons, written_skeletons}

-- What is written for a source that is converted, with its comments, is a proper program.
abbrev pub WrittenIsProper : Type 0
WrittenIsProper = (bytes : List ℕ) (p : SourceProgram) → IsConvertible bytes p → IsProper (written (comments bytes) p)

-- exactly one program, with its comments, is read in the text, and it is proper
pub record OneReading (text : List ℕ) (program : FreeProgram) : Type 0 where
  pub is_read : SpellsText text program
  pub only : (other : FreeProgram) → SpellsText text other → other ≡ program
  pub proper : IsProper program

-- The text has one reading, which does what the source of the bytes does, by the map, has the same skeleton, and has the same
-- comments at the same positions.
pub record DoesTheSameBy (bytes : List ℕ) (source : SourceProgram) (text map : List ℕ) : Type 0 where
  pub program : FreeProgram
  pub one_reading : OneReading text program
  pub lines : List MapLine
  pub is_map : map ≡ map_text lines
  pub does_the_same : DoesTheSame source program lines
  pub skeletons : source_skeletons source ≡ written_skeletons program
  pub comments : source_positions bytes source ≡ written_positions program

-- The bytes are the source of a program of which nothing is refused, and the text does the same by the map.
pub record IsFaithful (bytes text map : List ℕ) : Type 0 where
  pub source : SourceProgram
  pub is_converted : IsConvertible bytes source
  pub does_the_same : DoesTheSameBy bytes source text map

-- The text and the map of a source that is converted are such ones.
abbrev pub ConversionsDoTheSame : Type 0
ConversionsDoTheSame = (bytes : List ℕ) (p : SourceProgram) → IsConvertible bytes p → DoesTheSameBy bytes p (program_text bytes p) (program_map p)
