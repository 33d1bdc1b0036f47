-- What holds of a file of which nothing is refused.
use Rattle.std.proofs.Common.{◌≡◌, ℕ, ◌+◌, ◌≤◌, Bool, true, false, not, cond, ◌&&◌, List, [], ◌∷◌, length, map, filter, Option, Some, None, IfSome, refl, sym, ap, ◌∙◌, subst, arith}
use Rattle.std.specs.Prelude.{nat_lt, if◌then◌else◌}
use Rattle.std.specs.List.{list_all}
use Rattle.std.specs.Option.{option_and_then}
use Rattle.std.proofs.lemmas.List.{append-nil}
use Rattle.std.proofs.lemmas.Bool.{and_from, and_parts}
use Rattle.text_base.specs.Lines.{lines}
use Rattle.text_base.specs.Cards.{Card, cards}
use Rattle.text_base.specs.LineRefusals.{too_large, passes_sum, line_refusals, card_refusals, files_refusals}
use Rattle.text_base.specs.declared.refusal.Place.{Place}
use Rattle.text_base.specs.declared.refusal.Refusal.{Refusal}
use Rattle.program77.specs.Tree as code
use Rattle.program77.specs.Tree.{Stmt, Code, done, item, simple, SourceUnit}
use Rattle.program77.specs.Built.{Built, program, action, continue, end_of_unit}
use Rattle.unit77.specs.Tree.{Line}
use Rattle.program77.specs.SourceReading.{ReadCard, read_card, read_of, Ended, join_code, read_code, text_from, unit_with, read_unit}
use Rattle.parse77.specs.Statement.{deck_refusals}
use Rattle.project_set.specs.Refusals.{is_built_action, is_short, is_built_statement, is_built_as, is_built_card, not_built_at, unbuilt_refusals, first_of, program_refusals, source_refusals, refusals}

-- ---- phases

-- where the first phase that has any has none, no phase has any
pub first_nothing : (a b : List Refusal) → first_of a b ≡ [] → (a ≡ []) × (b ≡ [])
first_nothing [] b e = (refl, e)
first_nothing (first ∷ rest) b e = absurd cc

-- no phase has any
nothing_first : (a b : List Refusal) → a ≡ [] → b ≡ [] → first_of a b ≡ []
nothing_first a b e f = ap (λ xs. first_of xs b) e ∙ f

-- the sum of one file is passed only by a file that is too large by itself
passes_alone : (n : ℕ) → (not (nat_lt 67108864 0) && nat_lt 67108864 (0 + n)) ≡ true → nat_lt 16777216 n ≡ true
passes_alone n e = grind (arith, e)

-- what is refused of the lines of one file
pub one_file : (bytes : List ℕ) → files_refusals 0 0 (bytes ∷ []) ≡ card_refusals 0 bytes
one_file bytes = append-nil _ ∙ go (passes_sum 0 bytes) refl
  where
    go : (b : Bool) → passes_sum 0 bytes ≡ b → (if b then too_large 0 (length bytes) ∷ [] else card_refusals 0 bytes) ≡ card_refusals 0 bytes
    go true is = sym (ap (λ b. if b then too_large 0 (length bytes) ∷ [] else line_refusals 0 1 None (lines bytes)) (passes_alone (length bytes) is))
    go false is = refl

-- where nothing is refused of the lines, the file isn't too large, and no line is refused
pub lines_accepted : (bytes : List ℕ) → card_refusals 0 bytes ≡ [] → (length bytes ≤ 16777216) × (line_refusals 0 1 None (lines bytes) ≡ [])
lines_accepted bytes e = go (nat_lt 16777216 (length bytes)) refl e
  where
    go : (b : Bool) → nat_lt 16777216 (length bytes) ≡ b → (if b then too_large 0 (length bytes) ∷ [] else line_refusals 0 1 None (lines bytes)) ≡ []
        → (length bytes ≤ 16777216) × (line_refusals 0 1 None (lines bytes) ≡ [])
    go true is e = absurd cc
    go false is e = (grind (arith, is), e)

-- in no phase is something refused of the file
pub record Accepted (bytes : List ℕ) : Type 0 where
  pub lines : card_refusals 0 bytes ≡ []
  pub statements : deck_refusals (cards 0 bytes) ≡ []
  pub built : unbuilt_refusals (cards 0 bytes) ≡ []
  pub unit : program_refusals (map read_of (cards 0 bytes)) ≡ []

pub accepted : (bytes : List ℕ) → refusals bytes ≡ [] → Accepted bytes
accepted bytes e =
    let unit = program_refusals (map read_of (cards 0 bytes)) in
    let first = first_nothing (files_refusals 0 0 (bytes ∷ [])) (source_refusals (cards 0 bytes)) e in
    let second = first_nothing (deck_refusals (cards 0 bytes)) (first_of (unbuilt_refusals (cards 0 bytes)) unit) first.1 in
    let third = first_nothing (unbuilt_refusals (cards 0 bytes)) unit second.1 in
    record { lines = sym (one_file bytes) ∙ first.0; statements = second.0; built = third.0; unit = third.1 }

pub nothing_refused : (bytes : List ℕ) → Accepted bytes → refusals bytes ≡ []
nothing_refused bytes a = nothing_first _ _ (one_file bytes ∙ a.lines) (nothing_first _ _ a.statements (nothing_first _ _ a.built a.unit))

-- ---- statements

-- where none is refused, all can be converted
pub all_built : (cs : List Card) → unbuilt_refusals cs ≡ [] → list_all is_built_card cs ≡ true
all_built [] e = refl
all_built (card ∷ cs) e = go (is_built_card card) refl e (λ f. all_built cs f)
  where
    go : (b : Bool) → is_built_card card ≡ b
        → map not_built_at (cond (not b) (card ∷ filter (λ c. not (is_built_card c)) cs) (filter (λ c. not (is_built_card c)) cs)) ≡ []
        → (map not_built_at (filter (λ c. not (is_built_card c)) cs) ≡ [] → list_all is_built_card cs ≡ true)
        → list_all is_built_card (card ∷ cs) ≡ true
    go true e is more = and_from (is_built_card card) (list_all is_built_card cs) e (more is)
    go false e is more = absurd cc

-- ---- the program

abbrev pub is_built_stmt : Stmt → Bool
is_built_stmt (simple a) = is_built_action a
is_built_stmt code.continue = true

-- all statements of a list can be converted
abbrev pub are_built_actions : Code → Bool
are_built_actions done = true
are_built_actions (item label here s rest) = is_built_stmt s && are_built_actions rest

abbrev IsBuiltList : Option Ended → Type 0
IsBuiltList ended = IfSome ended (λ r. are_built_actions r.0 ≡ true)

-- one statement more that can be converted
built_join : (here : Place) (s : Built) (rest : List ReadCard) (more : Option Ended) → is_built_statement s ≡ true → IsBuiltList more → IsBuiltList (join_code here s rest more)
built_join here (program x) rest more built list = tt
built_join here (action a) rest None built list = tt
built_join here (action a) rest (Some r) built list = and_from (is_built_action a) (are_built_actions r.0) (and_parts (is_built_action a) (is_short a) built).0 list
built_join here continue rest None built list = tt
built_join here continue rest (Some r) built list = list
built_join here end_of_unit [] more built list = refl
built_join here end_of_unit (next ∷ rest) more built list = tt

list_is_built : (cs : List Card) → list_all is_built_card cs ≡ true → IsBuiltList (read_code (map read_of cs))
list_is_built [] built = tt
list_is_built (card ∷ rest) built =
    let b = and_parts (is_built_card card) (list_all is_built_card rest) built in
    go (read_card card) b.0 (list_is_built rest b.1)
  where
    go : (o : Option Built) → is_built_as o ≡ true → IsBuiltList (read_code (map read_of rest))
        → IsBuiltList (option_and_then (λ s. join_code card.place s (map read_of rest) (read_code (map read_of rest))) o)
    go None built list = tt
    go (Some s) built list = built_join card.place s (map read_of rest) (read_code (map read_of rest)) built list

-- the unit that begins with a statement, before such a list
built_unit_with : (text : List Line) (here : Place) (o : Option Built) (ended : Option Ended) → IsBuiltList ended → IfSome (option_and_then (λ s. unit_with text here s ended) o) (λ u. are_built_actions u.code ≡ true)
built_unit_with text here None ended list = tt
built_unit_with text here (Some (program x)) None list = tt
built_unit_with text here (Some (program x)) (Some r) list = list
built_unit_with text here (Some (action a)) ended list = tt
built_unit_with text here (Some continue) ended list = tt
built_unit_with text here (Some end_of_unit) ended list = tt

-- a program whose statements can all be converted
pub unit_is_built : (cs : List Card) (u : SourceUnit) → unbuilt_refusals cs ≡ [] → read_unit (map read_of cs) ≡ Some u → are_built_actions u.code ≡ true
unit_is_built [] u built e = absurd cc
unit_is_built (card ∷ rest) u built e =
    let b = and_parts (is_built_card card) (list_all is_built_card rest) (all_built (card ∷ rest) built) in
    subst (λ o. IfSome o (λ v. are_built_actions v.code ≡ true)) e (built_unit_with (text_from 0 (map read_of (card ∷ rest))) card.place (read_card card) (read_code (map read_of rest)) (list_is_built rest b.1))
