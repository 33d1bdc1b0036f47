-- The program that a source is.
use Rattle.std.specs.Prelude.{◌≡◌, ℕ, IsTrue, List, [], ◌∷◌}
use Rattle.text_base.specs.Cards.{cards}
use Rattle.text_base.specs.LineRefusals.{card_refusals}
use Rattle.unit77.specs.CardPrograms.{AreUnitsOf}
use Rattle.unit77.specs.Programs.{ProgramUnit}
use Rattle.implicit_types.specs.Typing.{refusals_of}
use Rattle.program77.specs.Plain.{is_converted, source_unit}
use Rattle.program77.specs.Tree.{SourceProgram}

-- The bytes of the file are the source of the program: none of its lines is refused, and its cards are one unit, which is
-- converted, and none of whose statements is refused for its names or their types.
pub record IsSource (file : ℕ) (bytes : List ℕ) (p : SourceProgram) : Type 0 where
  pub unit : ProgramUnit
  pub accepted : card_refusals file bytes ≡ []
  pub units : AreUnitsOf (cards file bytes) (unit ∷ [])
  pub converted : IsTrue (is_converted unit)
  pub typed : refusals_of unit ≡ []
  pub whole : p ≡ record { units = source_unit unit ∷ [] }
