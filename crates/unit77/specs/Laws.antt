-- The laws of nesting.
use Rattle.std.specs.Prelude.{◌≡◌, ◌≢◌, ℕ, suc, List, [], ◌∷◌, map, flat_map, None}
use Rattle.order77.specs.declared.mark.Mark.{Mark}
use Rattle.unit77.specs.Tree.{Line, Items}
use Rattle.unit77.specs.Nesting.{mark, IsNesting}
use Rattle.unit77.specs.Refusals.{all_shown}
use Rattle.order77.specs.Counts.{Reading}
use Rattle.unit77.specs.FileRefusals.{file_refusals}
use Rattle.unit77.specs.Programs.{ProgramUnit, AreUnits, reading_of, unit_lines}

-- statements have at most one nesting
abbrev pub OneNesting : Type 0
OneNesting = (lines : List Line) (a b : Items) → IsNesting lines a → IsNesting lines b → a ≡ b

-- nothing is refused exactly where the statements nest, whatever END they have
abbrev pub NestsOrNot : Type 0
NestsOrNot = (lines : List Line) (e : Mark) → (all_shown e [] (map mark lines) ≡ [] → (items : Items) × IsNesting lines items) × ((items : Items) × IsNesting lines items → all_shown e [] (map mark lines) ≡ [])

-- the statements are numbered in order
abbrev pub AreNumbered : ℕ → List Reading → Type 0
AreNumbered n [] = Unit {0}
AreNumbered n (r ∷ rs) = (r.number ≡ n) × AreNumbered (suc n) rs

-- what has no spelling is refused
abbrev pub AreReadOrRefused : List Reading → Type 0
AreReadOrRefused [] = Unit {0}
AreReadOrRefused (r ∷ rs) = (r.statement ≡ None → r.refusal ≢ None) × AreReadOrRefused rs

-- the statements of a file are those of at most one list of units
abbrev pub OneProgram : Type 0
OneProgram = (ls : List Line) (us vs : List ProgramUnit) → AreUnits ls us → AreUnits ls vs → us ≡ vs

-- the readings are those of statements of which none is refused, and these are the units
pub record IsProgram (rs : List Reading) (us : List ProgramUnit) : Type 0 where
  pub lines : List Line
  pub read : map reading_of lines ≡ rs
  pub units : AreUnits lines us

-- nothing is refused of a file exactly where its statements are the units of some program
abbrev pub ProgramOrNot : Type 0
ProgramOrNot = (rs : List Reading) → AreNumbered 0 rs → AreReadOrRefused rs → (file_refusals rs ≡ [] → (us : List ProgramUnit) × IsProgram rs us) × ((us : List ProgramUnit) × IsProgram rs us → file_refusals rs ≡ [])

-- the statements of the units of a file, in order, are those of the file
abbrev pub StatementsStand : Type 0
StatementsStand = (ls : List Line) (us : List ProgramUnit) → AreNumbered 0 (map reading_of ls) → AreUnits ls us → flat_map unit_lines us ≡ ls
