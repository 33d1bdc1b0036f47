-- The law of the order of the text.
use Rattle.std.specs.Prelude.{◌≡◌, ◌<◌, List, [], ◌∷◌}
use Rattle.unit77.specs.Tree.{Line}
use Rattle.unit77.specs.Programs.{ProgramUnit, IsUnit}
use Rattle.names77.specs.Text.{text_of}

-- each statement has a lower number than the next one
abbrev pub NumbersRise : List Line → Type 0
NumbersRise [] = Unit {0}
NumbersRise (l ∷ []) = Unit {0}
NumbersRise (l ∷ m ∷ ls) = (l.number < m.number) × NumbersRise (m ∷ ls)

-- the text of the unit that statements make is these statements, as they stood
abbrev pub KeepsTheText : Type 0
KeepsTheText = (own : List Line) (unit : ProgramUnit) → IsUnit own unit → NumbersRise own → text_of unit ≡ own
