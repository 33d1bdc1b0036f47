-- The program that is read is the one that the source is.
use Rattle.std.proofs.Common.{◌≡◌, ℕ, Bool, true, false, List, [], ◌∷◌, map, Option, Some, None, refl, sym, ap, ◌∙◌, subst}
use Rattle.std.specs.Prelude.{◌==◌, if◌then◌else◌}
use Rattle.std.specs.Option.{option_map}
use Rattle.std.proofs.lemmas.Bool.{eqb-true, eq-eqb}
use Rattle.text_base.specs.Cards.{Card, cards}
use Rattle.text_base.specs.LineRefusals.{card_refusals}
use Rattle.text_base.specs.declared.refusal.Refusal.{Refusal}
use Rattle.text_base.proofs.Optional.{mapped}
use Rattle.tree77.specs.CardSpelling.{SpellsCard}
use Rattle.tree77.specs.Statements.{Statement}
use Rattle.unit77.specs.CardPrograms.{AreUnitsOf}
use Rattle.unit77.specs.Programs.{ProgramUnit}
use Rattle.parse77.specs.Reading.{Outcome, accepted, rejected, card_outcome}
use Rattle.parse77.specs.Statement.{deck_refusals}
use Rattle.program77.specs.Built.{Built, SpellsBuilt}
use Rattle.program77.specs.Plain.{is_converted, source_unit, one_converted}
use Rattle.program77.specs.Source.{IsSource}
use Rattle.names77.specs.Text.{text_of}
use Rattle.implicit_types.specs.Typing.{Refused, refusals_in, refusals_of}
use Rattle.program77.specs.SourceReading.{read_card, read_of, built_in, text_from, type_refusals, read_unit, file_statements, unless_refused, read_source}
use Rattle.program77.specs.Tree.{SourceUnit, SourceProgram}

-- what is known of cards and of files
pub record Laws : Type 0 where
  pub card_found : (card : Card) (x : Statement) → card_outcome card ≡ accepted x → SpellsCard card x
  pub card_only : (card : Card) (x : Statement) → SpellsCard card x → card_outcome card ≡ accepted x
  pub found : (cs : List Card) → deck_refusals cs ≡ [] → (us : List ProgramUnit) × AreUnitsOf cs us
  pub only : (cs : List Card) (us : List ProgramUnit) → AreUnitsOf cs us → deck_refusals cs ≡ []
  pub unit_read : (cs : List Card) (us : List ProgramUnit) → AreUnitsOf cs us → read_unit (map read_of cs) ≡ one_converted us
  pub text_read : (cs : List Card) (unit : ProgramUnit) → AreUnitsOf cs (unit ∷ []) → is_converted unit ≡ true → text_from 0 (map read_of cs) ≡ text_of unit

module _ (l : Laws) where
  -- ---- statements that are converted

  pub built_spelled : (card : Card) (b : Built) → read_card card ≡ Some b → SpellsBuilt card b
  built_spelled card b e = go (card.label == 0) refl (card_outcome card) refl e
    where
      go : (t : Bool) → (card.label == 0) ≡ t → (o : Outcome) → card_outcome card ≡ o → (if t then built_in o else None) ≡ Some b → SpellsBuilt card b
      go true is (accepted x) was e = record { unlabelled = eqb-true card.label 0 is; statement = x; spelled = l.card_found card x was; built = e }
      go true is (rejected p) was e = absurd cc
      go false is o was e = absurd cc

  pub built_read : (card : Card) (b : Built) → SpellsBuilt card b → read_card card ≡ Some b
  built_read card b s =
      ap (λ t. if t then built_in (card_outcome card) else None) (eq-eqb card.label 0 s.unlabelled) ∙ ap built_in (l.card_only card s.statement s.spelled) ∙ s.built

  -- ---- programs

  abbrev program_of : SourceUnit → SourceProgram
  program_of unit = record { units = unit ∷ [] }

  -- the program that the cards of a file spell
  abbrev program_read : ℕ → List ℕ → Option SourceProgram
  program_read file bytes = option_map program_of (read_unit (file_statements file bytes))

  -- the one unit, where it is converted
  pub record IsOne (us : List ProgramUnit) (u : SourceUnit) : Type 0 where
    pub unit : ProgramUnit
    pub whole : us ≡ unit ∷ []
    pub converted : is_converted unit ≡ true
    pub is : u ≡ source_unit unit

  is_one : (us : List ProgramUnit) (u : SourceUnit) → one_converted us ≡ Some u → IsOne us u
  is_one [] u e = absurd cc
  is_one (v ∷ []) u e = go (is_converted v) refl e
    where
      go : (b : Bool) → is_converted v ≡ b → (if b then Some (source_unit v) else None) ≡ Some u → IsOne (v ∷ []) u
      go true is e = record { unit = v; whole = refl; converted = is; is = cc }
      go false is e = absurd cc
  is_one (v ∷ w ∷ us) u e = absurd cc

  -- the source of the one unit of a file
  source_by : (file : ℕ) (bytes : List ℕ) (p : SourceProgram) (u : SourceUnit) → card_refusals file bytes ≡ [] → ((us : List ProgramUnit) × AreUnitsOf (cards file bytes) us)
      → type_refusals (file_statements file bytes) ≡ [] → read_unit (file_statements file bytes) ≡ Some u → program_of u ≡ p → IsSource file bytes p
  source_by file bytes p u lines units typed was is =
      let one = is_one units.0 u (sym (l.unit_read (cards file bytes) units.0 units.1) ∙ was) in
      let alone = subst (AreUnitsOf (cards file bytes)) one.whole units.1 in
      record {
        unit = one.unit;
        accepted = lines;
        units = alone;
        converted = one.converted;
        typed = ap refusals_in (sym (l.text_read (cards file bytes) one.unit alone one.converted)) ∙ typed;
        whole = sym is ∙ ap program_of one.is;
      }

  -- what is read is the program of the source
  pub source_of : (file : ℕ) (bytes : List ℕ) (p : SourceProgram) → read_source file bytes ≡ Some p → IsSource file bytes p
  source_of file bytes p e = go (card_refusals file bytes) refl (deck_refusals (cards file bytes)) refl (type_refusals (file_statements file bytes)) refl e
    where
      go : (rs : List Refusal) → card_refusals file bytes ≡ rs → (qs : List Refusal) → deck_refusals (cards file bytes) ≡ qs → (ts : List Refused) → type_refusals (file_statements file bytes) ≡ ts
          → unless_refused rs (unless_refused qs (unless_refused ts (program_read file bytes))) ≡ Some p → IsSource file bytes p
      go [] lines [] deck [] typed e =
          let m = mapped (read_unit (file_statements file bytes)) program_of p e in
          source_by file bytes p m.from lines (l.found (cards file bytes) deck) typed m.was m.is
      go [] lines [] deck (t ∷ ts) typed e = absurd cc
      go [] lines (q ∷ qs) deck ts typed e = absurd cc
      go (r ∷ rs) lines qs deck ts typed e = absurd cc

  -- the program of the source is read
  pub source_read : (file : ℕ) (bytes : List ℕ) (p : SourceProgram) → IsSource file bytes p → read_source file bytes ≡ Some p
  source_read file bytes p s =
      let read : read_unit (file_statements file bytes) ≡ Some (source_unit s.unit) =
      l.unit_read (cards file bytes) (s.unit ∷ []) s.units ∙ ap (λ b. if b then Some (source_unit s.unit) else None) s.converted in
      let typed : type_refusals (file_statements file bytes) ≡ [] = ap refusals_in (l.text_read (cards file bytes) s.unit s.units s.converted) ∙ s.typed in
      ap (λ rs. unless_refused rs (unless_refused (deck_refusals (cards file bytes)) (unless_refused (type_refusals (file_statements file bytes)) (program_read file bytes)))) s.accepted
      ∙ ap (λ rs. unless_refused rs (unless_refused (type_refusals (file_statements file bytes)) (program_read file bytes))) (l.only (cards file bytes) (s.unit ∷ []) s.units)
      ∙ ap (λ rs. unless_refused rs (program_read file bytes)) typed
      ∙ ap (option_map program_of) read
      ∙ ap Some (sym s.whole)
