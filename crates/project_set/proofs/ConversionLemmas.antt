-- What is converted: the program of a file, with its comments.
use Rattle.std.proofs.Common.{◌≡◌, ℕ, zero, suc, ◌+◌, ◌-◌, ◌≤◌, Bool, true, false, List, [], ◌∷◌, length, map, Option, Some, None, refl, sym, ap, ◌∙◌, subst, arith}
use Rattle.std.specs.Prelude.{filter, Result, Ok, Err, if◌then◌else◌}
use Rattle.std.specs.Result.{IsErr, IsErrAnd}
use Rattle.std.specs.List.{list_all}
use Rattle.std.specs.Option.{option_map}
use Rattle.std.proofs.lemmas.List.{length-map}
use Rattle.std.proofs.lemmas.List.Elements.{Contains-push}
use Rattle.std.proofs.lemmas.List.Folds.{list_all-map}
use Rattle.text_base.specs.Cards.{Card, Comment, cards, comments}
use Rattle.text_base.specs.Chars.{is_name}
use Rattle.text_base.specs.LineRefusals.{card_refusals}
use Rattle.order77.specs.Counts.{Reading}
use Rattle.unit77.specs.CardPrograms.{AreUnitsOf}
use Rattle.unit77.specs.Laws.{IsProgram}
use Rattle.unit77.specs.Programs.{ProgramUnit}
use Rattle.unit77.specs.UnitViews.{unit_of}
use Rattle.unit77.specs.declared.tree.Unit77.{Unit77}
use Rattle.names77.specs.Text.{text_of}
use Rattle.text_base.specs.declared.refusal.Refusal.{Refusal}
use Rattle.implicit_types.specs.Typing.{Entity, IsRefused, refusals_in, refusals_of}
use Rattle.implicit_types.specs.Views.{shown_refusal}
use Rattle.parse77.specs.Statement.{deck_refusals, file_readings}
use Rattle.program77.specs.Plain.{is_converted, one_converted, source_of}
use Rattle.program77.specs.Source.{IsSource}
use Rattle.program77.specs.SourceReading.{read_of, text_from, type_refusals, read_unit, unless_refused, read_source}
use Rattle.program77.specs.Tree.{SourceProgram}
use Rattle.program77.specs.Typing.{is_variable}
use Rattle.project_set.specs.Comments.{groups_at, ArePlaced}
use Rattle.project_set.specs.Conversion.{IsConvertible, RefusesWith}
use Rattle.project_set.specs.Refusals.{unbuilt_refusals, refusal_of, unit_refusals, first_of, program_refusals, source_refusals, refusals}
use Rattle.project_set.specs.Rewrite.{comments_from}
use Rattle.project_set.specs.Typed.{SourcesAreTyped}
use Rattle.project_set.specs.declared.comments.Comments.{Comments}
use Rattle.project_set.specs.declared.conversion.ConvertError.{ConvertError}
use Rattle.project_set.specs.declared.conversion.ConvertError.TheVariants.{Refused, Memory}
use Rattle.project_set.proofs.Placing.{one_unit}
use Rattle.project_set.proofs.ProperLemmas.{variables_are_named}
use Rattle.project_set.proofs.RefusalLemmas.{one_file}
use Rattle.project_set.proofs.ShortLineLemmas.{CardFound, unit_is_short}
use Rattle.project_set.proofs.SizeLemmas.{unit_size, items_count}

-- what the law on sources says: the program that is read is the one that the bytes are the source of
abbrev pub SourceFound : Type 0
SourceFound = (file : ℕ) (bytes : List ℕ) (p : SourceProgram) → read_source file bytes ≡ Some p → IsSource file bytes p

-- what the laws on files and on sources say: the units of a file are the one that is read, where it is converted, and its text is
-- the one that is read
abbrev pub UnitsAsRead : Type 0
UnitsAsRead = (cards : List Card) (us : List ProgramUnit) → IsProgram (file_readings cards) us → AreUnitsOf cards us

abbrev pub UnitRead : Type 0
UnitRead = (cards : List Card) (us : List ProgramUnit) → AreUnitsOf cards us → read_unit (map read_of cards) ≡ one_converted us

abbrev pub TextRead : Type 0
TextRead = (cards : List Card) (unit : ProgramUnit) → AreUnitsOf cards (unit ∷ []) → is_converted unit ≡ true → text_from 0 (map read_of cards) ≡ text_of unit

-- the file is the one main program, and nothing is refused of it before its names
pub record IsRead (bytes : List ℕ) (u : Unit77) : Type 0 where
  pub lines : card_refusals 0 bytes ≡ []
  pub statements : deck_refusals (cards 0 bytes) ≡ []
  pub built : unbuilt_refusals (cards 0 bytes) ≡ []
  pub unit : read_unit (map read_of (cards 0 bytes)) ≡ Some (source_of u)
  pub text : text_from 0 (map read_of (cards 0 bytes)) ≡ text_of (unit_of u)

true_of_some : {X : Type 0} (b : Bool) (x y : X) → Some x ≡ (if b then Some y else None) → b ≡ true
true_of_some true x y e = refl
true_of_some false x y e = absurd cc

-- the main program that the units of a file are is the one that is read
pub unit_found : UnitsAsRead → UnitRead → (bytes : List ℕ) (readings : List Reading) (us : List Unit77) (made : Option Unit77)
    → readings ≡ file_readings (cards 0 bytes) → IsProgram readings (map unit_of us) → option_map source_of made ≡ one_converted (map unit_of us)
    → read_unit (map read_of (cards 0 bytes)) ≡ option_map source_of made
unit_found as_read read bytes readings us made same nested found =
    read (cards 0 bytes) (map unit_of us) (as_read (cards 0 bytes) (map unit_of us) (subst (λ (rs : List Reading). IsProgram rs (map unit_of us)) same nested)) ∙ sym found

pub is_read : UnitsAsRead → UnitRead → TextRead → (bytes : List ℕ) (readings : List Reading) (us : List Unit77) (u : Unit77)
    → readings ≡ file_readings (cards 0 bytes) → IsProgram readings (map unit_of us) → us ≡ u ∷ [] → Some (source_of u) ≡ one_converted (map unit_of us)
    → card_refusals 0 bytes ≡ [] → deck_refusals (cards 0 bytes) ≡ [] → unbuilt_refusals (cards 0 bytes) ≡ [] → IsRead bytes u
is_read as_read read text bytes readings us u same nested alone found lines statements built =
    let units : AreUnitsOf (cards 0 bytes) (unit_of u ∷ []) =
    subst (λ vs. AreUnitsOf (cards 0 bytes) (map unit_of vs)) alone (as_read (cards 0 bytes) (map unit_of us) (subst (λ (rs : List Reading). IsProgram rs (map unit_of us)) same nested)) in
    let converted = true_of_some (is_converted (unit_of u)) (source_of u) (source_of u) (found ∙ ap (λ vs. one_converted (map unit_of vs)) alone) in
    record {
      lines = lines;
      statements = statements;
      built = built;
      unit = unit_found as_read read bytes readings us (Some u) same nested found;
      text = text (cards 0 bytes) (unit_of u) units converted;
    }

-- what is refused of it is what is refused of its names and their types
pub refusals_are : (bytes : List ℕ) (u : Unit77) → IsRead bytes u → refusals bytes ≡ map refusal_of (refusals_of (unit_of u))
refusals_are bytes u r =
    ap (λ rs. first_of rs (source_refusals (cards 0 bytes))) (one_file bytes ∙ r.lines)
    ∙ ap (λ rs. first_of rs (first_of (unbuilt_refusals (cards 0 bytes)) (program_refusals (map read_of (cards 0 bytes))))) r.statements
    ∙ ap (λ rs. first_of rs (program_refusals (map read_of (cards 0 bytes)))) r.built
    ∙ ap (unit_refusals 0 (map read_of (cards 0 bytes))) r.unit
    ∙ ap (λ ls. map refusal_of (refusals_in ls)) r.text

-- so the refusals of typing are those of the file
shown_back : (rs : List Refusal) → map refusal_of (map shown_refusal rs) ≡ rs
shown_back [] = refl
shown_back (r ∷ rs) = ap (λ l. r ∷ l) (shown_back rs)

pub refused_by : (unit : ProgramUnit) (list : List Refusal) → IsRefused unit (map shown_refusal list) → (bytes : List ℕ) → refusals bytes ≡ map refusal_of (refusals_of unit)
    → (list ≡ refusals bytes) × (refusals bytes ≡ [] → ⊥)
refused_by unit list h bytes whole =
    let same : list ≡ refusals bytes = sym (shown_back list) ∙ ap (map refusal_of) h.1 ∙ sym whole in
    (same, λ e. h.0 (ap (map shown_refusal) (same ∙ e)))

-- a refusal is handed on as it is
pub refused_alike : {U : Type 0} (bytes : List ℕ) (e : ConvertError) (result : Result U ConvertError) → IsErr result × IsErrAnd result (λ f. f ≡ e) → RefusesWith {T = Unit {0}} bytes (Err e) → RefusesWith {T = U} bytes result
refused_alike {U = U} bytes e (Ok v) is h = absurd cc
refused_alike {U = U} bytes (Refused list) (Err f) is h = subst (λ g. RefusesWith {T = U} bytes (Err g)) (sym is.1) h
refused_alike {U = U} bytes Memory (Err f) is h = subst (λ g. RefusesWith {T = U} bytes (Err g)) (sym is.1) h

-- where there is nothing, it is converted
pub converted : SourceFound → (bytes : List ℕ) (u : Unit77) → IsRead bytes u → refusals_of (unit_of u) ≡ [] → IsConvertible bytes (one_unit (source_of u))
converted found bytes u r accepted =
    let whole = option_map one_unit (read_unit (map read_of (cards 0 bytes))) in
    let typed : type_refusals (map read_of (cards 0 bytes)) ≡ [] = ap refusals_in r.text ∙ accepted in
    let read : read_source 0 bytes ≡ Some (one_unit (source_of u)) =
    ap (λ rs. unless_refused rs (unless_refused (deck_refusals (cards 0 bytes)) (unless_refused (type_refusals (map read_of (cards 0 bytes))) whole))) r.lines
    ∙ ap (λ rs. unless_refused rs (unless_refused (type_refusals (map read_of (cards 0 bytes))) whole)) r.statements
    ∙ ap (λ rs. unless_refused rs whole) typed
    ∙ ap (option_map one_unit) r.unit in
    record { is_source = found 0 bytes (one_unit (source_of u)) read; accepted = refusals_are bytes u r ∙ ap (map refusal_of) accepted }

-- its variables have names
pub variables_named : SourcesAreTyped → CardFound → (bytes : List ℕ) (u : Unit77) (entities : List Entity) → IsRead bytes u → IsConvertible bytes (one_unit (source_of u)) → entities ≡ (source_of u).entities
    → list_all (λ (e : Entity). is_name e.name) (filter is_variable entities) ≡ true
variables_named typed found bytes u entities r c same =
    let t = typed bytes (one_unit (source_of u)) c (source_of u) (Contains-push [] (source_of u)) in
    let named = variables_are_named (source_of u) (unit_is_short found (cards 0 bytes) (source_of u) r.built r.unit) t in
    ap (λ es. list_all (λ (e : Entity). is_name e.name) (filter is_variable es)) same ∙ sym (list_all-map is_name (λ (e : Entity). e.name) (filter is_variable (source_of u).entities)) ∙ named

length_groups : (cs : List Comment) (k n : ℕ) → length (groups_at cs k n) ≡ n
length_groups cs k zero = refl
length_groups cs k (suc n) = let more = length_groups cs (k + 1) n in omega (arith, more)

-- the statements of a unit, and the comments of its file
pub record IsUnitOf (bytes : List ℕ) (u : Unit77) (placed : Comments) : Type 0 where
  pub counted : length placed.before ≡ length u.items + 1
  pub at : ArePlaced (comments bytes) (length placed.before) placed

pub unit_of_file : (bytes : List ℕ) (u : Unit77) (placed : Comments) → read_unit (map read_of (cards 0 bytes)) ≡ Some (source_of u)
    → (2 ≤ length (cards 0 bytes) → ArePlaced (comments bytes) (length (cards 0 bytes) - 1) placed) → IsUnitOf bytes u placed
unit_of_file bytes u placed unit at =
    let count : length (cards 0 bytes) ≡ length u.items + 2 =
    sym (unit_size (map read_of (cards 0 bytes)) (source_of u) unit ∙ length-map (cards 0 bytes) read_of) ∙ ap (λ n. n + 2) (items_count u.items) in
    let here = at (omega (arith, count)) in
    let size : length placed.before ≡ length (cards 0 bytes) - 1 = ap length here.before ∙ length_groups (comments_from (comments bytes) 2) 1 (length (cards 0 bytes) - 1) in
    record {
      counted = omega (arith, size, count);
      at = subst (λ n. ArePlaced (comments bytes) n placed) (sym size) here;
    }
