-- The unit of a source that is converted is typed.
use Rattle.std.proofs.Common.{◌≡◌, zero, suc, List, [], ◌∷◌, map, Contains, Some, None, sym, ap, ◌∙◌, subst, arith}
use Rattle.std.specs.Prelude.{if◌then◌else◌}
use Rattle.text_base.specs.Cards.{Card, cards}
use Rattle.unit77.specs.CardPrograms.{AreUnitsOf}
use Rattle.unit77.specs.Programs.{ProgramUnit}
use Rattle.implicit_types.specs.TypingLaws.{TypedUnits}
use Rattle.program77.specs.Plain.{one_converted, source_unit}
use Rattle.program77.specs.SourceReading.{read_of, read_unit}
use Rattle.program77.specs.Tree.{SourceProgram}
use Rattle.project_set.specs.Typed.{IsTypedUnit, SourcesAreTyped}
use Rattle.project_set.proofs.RefusalLemmas.{accepted, unit_is_built}
use Rattle.project_set.proofs.TypedForms.{Converted}
use Rattle.project_set.proofs.TypedNames.{names_agree, variables_are_integers}
use Rattle.project_set.proofs.TypedParts.{statements_typed}

-- a unit that is converted, and of which nothing is refused
typed_unit : TypedUnits → (unit : ProgramUnit) → Converted unit → IsTypedUnit (source_unit unit)
typed_unit typed unit c =
    let names = names_agree typed in
    record {
      names = names.0 unit c;
      integers_alone = variables_are_integers typed unit c;
      apart = names.2 unit c;
      own = (names.1 unit c).0;
      own_functions = (names.1 unit c).1;
      typed = statements_typed typed names.0 names.2 unit c;
    }

only_one : {X : Type 0} (x y : X) → Contains (x ∷ []) y → y ≡ x
only_one x y (zero, l, e) = sym e
only_one x y (suc i, l, e) = absurd (omega arith)

-- what the law on sources says: the units of a file are the one that is read, where it is converted
abbrev UnitRead : Type 0
UnitRead = (cards : List Card) (us : List ProgramUnit) → AreUnitsOf cards us → read_unit (map read_of cards) ≡ one_converted us

pub sources_are_typed : TypedUnits → UnitRead → SourcesAreTyped
sources_are_typed typed read bytes p c unit there =
    let s = c.is_source in
    let made : read_unit (map read_of (cards 0 bytes)) ≡ Some (source_unit s.unit) =
    read (cards 0 bytes) (s.unit ∷ []) s.units ∙ ap (λ b. if b then Some (source_unit s.unit) else None) s.converted in
    let built = unit_is_built (cards 0 bytes) (source_unit s.unit) (accepted bytes c.accepted).built made in
    let is : unit ≡ source_unit s.unit = only_one (source_unit s.unit) unit (subst (λ (q : SourceProgram). Contains q.units unit) s.whole there) in
    subst IsTypedUnit (sym is) (typed_unit typed s.unit (record { converted = s.converted; built = built; accepted = s.typed }))
