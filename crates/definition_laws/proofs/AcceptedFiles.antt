-- Nothing is refused of a file where it is the source of a program that is converted.
use Rattle.std.proofs.Common.{◌≡◌, ◌↔◌, ◌∙◌, sym, ap, subst, refl, ℕ, Bool, true, false, not, cond, ◌&&◌, List, [], ◌∷◌, length, map, filter, Option, Some, None, arith}
use Rattle.std.specs.Prelude.{nat_lt, if◌then◌else◌}
use Rattle.std.specs.List.{list_all}
use Rattle.std.specs.Option.{option_and_then, option_map}
use Rattle.std.proofs.lemmas.Bool.{and_from, and_parts, leb-true, le-leb}
use Rattle.std.proofs.lemmas.List.{append-nil}
use Rattle.std.proofs.lemmas.List.Elements.{All-cons, All-nil}
use Rattle.text_base.specs.Cards.{Card, cards}
use Rattle.text_base.specs.LineRefusals.{too_large, passes_sum, line_refusals, card_refusals, files_refusals}
use Rattle.text_base.specs.Lines.{lines}
use Rattle.text_base.specs.Trees.{name, Action, assign, stop}
use Rattle.text_base.specs.declared.refusal.Place.{Place}
use Rattle.text_base.specs.declared.refusal.Refusal.{Refusal}
use Rattle.text_base.proofs.Optional.{mapped}
use Rattle.unit77.specs.Tree.{Line}
use Rattle.names77.specs.Known.{known}
use Rattle.implicit_types.specs.Typing.{Refused, entities_of}
use Rattle.program77.specs.Built.{SpellsBuilt, Built, program, action, continue, end_of_unit}
use Rattle.program77.specs.Source.{IsSource}
use Rattle.program77.specs.Tree as tree
use Rattle.program77.specs.Tree.{Code, done, item, SourceUnit, SourceProgram}
use Rattle.program77.specs.SourceReading.{ReadCard, read_card, read_of, file_statements, Ended, ended_at, join_code, read_code, text_from, type_refusals, unit_with, read_unit, unless_refused, read_source}
use Rattle.parse77.specs.Statement.{deck_refusals}
use Rattle.project_set.specs.Refusals.{is_built_action, is_short, is_built_statement, is_built_as, is_built_card, not_built_at, unbuilt_refusals, refusal_of, unit_refusals, first_of, refusals}
use Rattle.definition_laws.specs.AcceptedFiles.{IsConverted, converted_assign, converted_stop, AreConverted, IsBuiltProgram, CardsAreSpelled, FilesAreSources}
use Rattle.definition_laws.proofs.AcceptedExpressions.{arithmetic, is_arithmetic_built}
use Rattle.definition_laws.proofs.AcceptedFaults.{after, beside, along}

-- ---- cards

pub cards_are_spelled : ((card : Card) (s : Built) → read_card card ≡ Some s → SpellsBuilt card s)
    → ((card : Card) (s : Built) → SpellsBuilt card s → read_card card ≡ Some s) → CardsAreSpelled
cards_are_spelled found only card =
    (λ e. go (read_card card) refl e, λ h. subst (λ o. is_built_as o ≡ true) (sym (only card h.0 h.1)) h.2)
  where
    go : (o : Option Built) → read_card card ≡ o → is_built_as o ≡ true → (s : Built) × SpellsBuilt card s × (is_built_as (Some s) ≡ true)
    go None is e = absurd cc
    go (Some s) is e = (s, found card s is, e)

-- ---- statements

both : (p q : Bool) → ((p && q) ≡ true) ↔ ((p ≡ true) × (q ≡ true))
both p q = (and_parts p q, λ h. and_from p q h.0 h.1)

converted : (a : Action) → ((is_built_action a ≡ true) × (is_short a ≡ true)) ↔ IsConverted a
converted a = (to a, from a)
  where
    to : (a : Action) → (is_built_action a ≡ true) × (is_short a ≡ true) → IsConverted a
    to (assign (name x) e) h = converted_assign (arithmetic e h.0) (leb-true _ _ h.1)
    to (assign d e) h = absurd (let first = h.0 in cc)
    to stop h = converted_stop

    from : (a : Action) → IsConverted a → (is_built_action a ≡ true) × (is_short a ≡ true)
    from a (converted_assign {e = e} s short) = (is_arithmetic_built e s, le-leb _ _ short)
    from a converted_stop = (refl, refl)

-- ---- lists

-- a statement, and those of a list, can be converted
abbrev stmt_built : tree.Stmt → Bool
stmt_built (tree.simple a) = is_built_statement (action a)
stmt_built tree.continue = true

abbrev code_built : Code → Bool
code_built done = true
code_built (item label here s rest) = stmt_built s && code_built rest

built_code : (code : Code) → (code_built code ≡ true) ↔ AreConverted code
built_code done = (λ e. tt, λ h. refl)
built_code (item label here tree.continue rest) = built_code rest
built_code (item label here (tree.simple a) rest) = after (both _ _) (beside (after (both (is_built_action a) (is_short a)) (converted a)) (built_code rest))

-- one statement more
joined : (here : Place) (s : tree.Stmt) (b : Bool) (o : Option Ended) (r : Ended) → option_map (λ (q : Ended). (item 0 here s q.0, q.1)) o ≡ Some r
    → ((q : Ended) → o ≡ Some q → b ≡ code_built q.0) → (stmt_built s && b) ≡ code_built r.0
joined here s b None r e more = absurd cc
joined here s b (Some q) r e more =
    let same : (item 0 here s q.0, q.1) ≡ r = cc in ap (λ c. stmt_built s && c) (more q refl) ∙ ap (λ (t : Ended). code_built t.0) same

last : (here : Place) (cs : List Card) (r : Ended) → ended_at here (map read_of cs) ≡ Some r → list_all is_built_card cs ≡ code_built r.0
last here [] r e = let same : (done, here) ≡ r = cc in ap (λ (t : Ended). code_built t.0) same
last here (card ∷ cs) r e = absurd cc

-- a list that is read can be converted where its cards can
list_reads : (cs : List Card) (r : Ended) → read_code (map read_of cs) ≡ Some r → list_all is_built_card cs ≡ code_built r.0
list_reads [] r e = absurd cc
list_reads (card ∷ rest) r e = go (read_card card) e (list_reads rest)
  where
    go : (o : Option Built) → option_and_then (λ s. join_code card.place s (map read_of rest) (read_code (map read_of rest))) o ≡ Some r
        → ((q : Ended) → read_code (map read_of rest) ≡ Some q → list_all is_built_card rest ≡ code_built q.0) → (is_built_as o && list_all is_built_card rest) ≡ code_built r.0
    go None e more = absurd cc
    go (Some (program y)) e more = absurd cc
    go (Some (action a)) e more = joined card.place (tree.simple a) _ (read_code (map read_of rest)) r e more
    go (Some continue) e more = joined card.place tree.continue _ (read_code (map read_of rest)) r e more
    go (Some end_of_unit) e more = last card.place rest r e

-- so can a unit
unit_reads : (cs : List Card) (u : SourceUnit) → read_unit (map read_of cs) ≡ Some u → list_all is_built_card cs ≡ code_built u.code
unit_reads [] u e = absurd cc
unit_reads (card ∷ rest) u e = go (text_from 0 (map read_of (card ∷ rest))) (read_card card) e
  where
    go : (text : List Line) (o : Option Built) → option_and_then (λ s. unit_with text card.place s (read_code (map read_of rest))) o ≡ Some u → (is_built_as o && list_all is_built_card rest) ≡ code_built u.code
    go text (Some (program x)) e =
        let m = mapped (read_code (map read_of rest)) (λ (r : Ended). record { name = x; place = card.place; entities = entities_of (known text); code = r.0; end = r.1 }) u e in
        list_reads rest m.from m.was ∙ ap (λ (v : SourceUnit). code_built v.code) m.is
    go text o e = absurd cc

-- ---- phases

no_first : (a b : List Refusal) → (first_of a b ≡ []) ↔ ((a ≡ []) × (b ≡ []))
no_first [] b = (λ e. (refl, e), λ h. h.1)
no_first (first ∷ rest) b = (λ e. absurd cc, λ h. absurd cc)

-- the sum of one file is passed only by a file that is too large by itself
one_file : (bytes : List ℕ) → files_refusals 0 0 (bytes ∷ []) ≡ card_refusals 0 bytes
one_file bytes = append-nil _ ∙ go (passes_sum 0 bytes) refl
  where
    go : (b : Bool) → passes_sum 0 bytes ≡ b → (if b then too_large 0 (length bytes) ∷ [] else card_refusals 0 bytes) ≡ card_refusals 0 bytes
    go true is =
        let large : nat_lt 16777216 (length bytes) ≡ true = grind (arith, is) in
        sym (ap (λ b. if b then too_large 0 (length bytes) ∷ [] else line_refusals 0 1 None (lines bytes)) large)
    go false is = refl

no_statement : (p : Card → Bool) (cs : List Card) → (map not_built_at (filter (λ card. not (p card)) cs) ≡ []) ↔ (list_all p cs ≡ true)
no_statement p [] = (λ e. refl, λ e. refl)
no_statement p (card ∷ cs) = go (p card) (no_statement p cs)
  where
    go : (b : Bool) → (map not_built_at (filter (λ c. not (p c)) cs) ≡ []) ↔ (list_all p cs ≡ true)
        → (map not_built_at (cond (not b) (card ∷ filter (λ c. not (p c)) cs) (filter (λ c. not (p c)) cs)) ≡ []) ↔ ((b && list_all p cs) ≡ true)
    go true more = more
    go false more = (λ e. absurd cc, λ e. absurd cc)

no_refusal : (rs : List Refused) → (map refusal_of rs ≡ []) ↔ (rs ≡ [])
no_refusal [] = (λ e. refl, λ e. refl)
no_refusal (r ∷ rs) = (λ e. absurd cc, λ e. absurd cc)

-- the statements are a unit, and nothing is refused of its names and their types
abbrev IsUnit : List ReadCard → Option SourceUnit → Type 0
IsUnit reads o = (type_refusals reads ≡ []) × ((u : SourceUnit) × (o ≡ Some u))

no_unit : (reads : List ReadCard) (o : Option SourceUnit) → (unit_refusals 0 reads o ≡ []) ↔ IsUnit reads o
no_unit reads None = (λ e. absurd cc, λ h. absurd (let e = h.1.1 in cc))
no_unit reads (Some u) = (λ e. ((no_refusal (type_refusals reads)).0 e, (u, refl)), λ h. (no_refusal (type_refusals reads)).1 h.0)

phases : (bytes : List ℕ) → (refusals bytes ≡ [])
    ↔ ((card_refusals 0 bytes ≡ []) × ((deck_refusals (cards 0 bytes) ≡ []) × ((list_all is_built_card (cards 0 bytes) ≡ true) × IsUnit (file_statements 0 bytes) (read_unit (file_statements 0 bytes)))))
phases bytes =
    let same : deck_refusals (cards 0 bytes) ≡ [] → deck_refusals (cards 0 bytes) ≡ [] = λ e. e in
    after (no_first (files_refusals 0 0 (bytes ∷ [])) _) (beside (along (one_file bytes))
    (after (no_first (deck_refusals (cards 0 bytes)) _)
    (beside (same, same) (after (no_first (unbuilt_refusals (cards 0 bytes)) _) (beside (no_statement is_built_card (cards 0 bytes)) (no_unit (file_statements 0 bytes) _))))))

-- ---- programs

abbrev program_of : SourceUnit → SourceProgram
program_of u = record { units = u ∷ [] }

source_read : (bytes : List ℕ) (u : SourceUnit) → card_refusals 0 bytes ≡ [] → deck_refusals (cards 0 bytes) ≡ [] → type_refusals (file_statements 0 bytes) ≡ []
    → read_unit (file_statements 0 bytes) ≡ Some u → read_source 0 bytes ≡ Some (program_of u)
source_read bytes u accepted deck typed is = λ i. unless_refused (accepted i) (unless_refused (deck i) (unless_refused (typed i) (option_map program_of (is i))))

unrefused : {R X : Type 0} (rs : List R) (o : Option X) (x : X) → unless_refused rs o ≡ Some x → (rs ≡ []) × (o ≡ Some x)
unrefused [] o x e = (refl, e)
unrefused (r ∷ rs) o x e = absurd cc

-- the unit of a program that is read
pub record IsRead (bytes : List ℕ) (p : SourceProgram) : Type 0 where
  pub unit : SourceUnit
  pub deck : deck_refusals (cards 0 bytes) ≡ []
  pub typed : type_refusals (file_statements 0 bytes) ≡ []
  pub read : read_unit (file_statements 0 bytes) ≡ Some unit
  pub whole : program_of unit ≡ p

unit_of : (bytes : List ℕ) (p : SourceProgram) → read_source 0 bytes ≡ Some p → IsRead bytes p
unit_of bytes p e =
    let lines = unrefused (card_refusals 0 bytes) _ p e in
    let deck = unrefused (deck_refusals (cards 0 bytes)) _ p lines.1 in
    let typed = unrefused (type_refusals (file_statements 0 bytes)) _ p deck.1 in
    let m = mapped (read_unit (file_statements 0 bytes)) program_of p typed.1 in
    record { unit = m.from; deck = deck.0; typed = typed.0; read = m.was; whole = m.is }

pub files_are_sources : ((file : ℕ) (bytes : List ℕ) (p : SourceProgram) → read_source file bytes ≡ Some p → IsSource file bytes p)
    → ((file : ℕ) (bytes : List ℕ) (p : SourceProgram) → IsSource file bytes p → read_source file bytes ≡ Some p) → FilesAreSources
files_are_sources found only bytes = (
  λ e. let p = (phases bytes).0 e in
      let is = p.1.1.1 in
      let u = is.1.0 in
      let built = (built_code u.code).0 (sym (unit_reads (cards 0 bytes) u is.1.1) ∙ p.1.1.0) in
      (program_of u, found 0 bytes (program_of u) (source_read bytes u p.0 p.1.0 is.0 is.1.1), All-cons (λ unit. AreConverted unit.code) u [] built (All-nil (λ unit. AreConverted unit.code))),
  λ h. let v = unit_of bytes h.0 (only 0 bytes h.0 h.1) in
      let u = v.unit in
      let built = (built_code u.code).1 (subst IsBuiltProgram (sym v.whole) h.2 0 u (omega arith)) in
      (phases bytes).1 (h.1.accepted, (v.deck, (unit_reads (cards 0 bytes) u v.read ∙ built, (v.typed, (u, v.read))))),
)
