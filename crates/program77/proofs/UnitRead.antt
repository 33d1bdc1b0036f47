-- What is read of the statements of a file is what is converted of its units.
use Rattle.std.proofs.Common.{◌≡◌, ℕ, suc, Bool, true, false, ◌==◌, List, [], ◌∷◌, ◌++◌, map, Option, Some, None, inl, inr, refl, sym, ap, ◌∙◌, subst, append-nil, eqb-true}
use Rattle.std.specs.Prelude.{◌&&◌, ◌||◌, not, flat_map, if◌then◌else◌}
use Rattle.std.specs.List.{list_all, zip}
use Rattle.std.specs.Option.{option_map, option_and_then}
use Rattle.std.proofs.lemmas.Bool.{and_parts}
use Rattle.text_base.specs.Cards.{Card}
use Rattle.text_base.specs.Pieces.{Piece}
use Rattle.text_base.specs.Trees as t
use Rattle.text_base.specs.declared.refusal.Place.{Place}
use Rattle.text_base.specs.declared.refusal.Refusal.{Refusal}
use Rattle.tree77.specs.CardSpelling.{SpellsCard}
use Rattle.tree77.specs.Statements as s
use Rattle.tree77.specs.Statements.{Statement}
use Rattle.order77.specs.declared.mark.Mark.{Mark}
use Rattle.order77.specs.declared.mark.Sort.{Sort}
use Rattle.order77.specs.declared.mark.Sort.TheVariants.{Plain, Leaving}
use Rattle.unit77.specs.CardPrograms.{SpellsLine, SpellLines, AreUnitsOf}
use Rattle.order77.specs.Counts.{Reading, counts_as, counts_of, counts_nothing, counts_action, is_end, is_first, is_misplaced, sort_of}
use Rattle.order77.specs.Naming.{own_names, name_or_main}
use Rattle.unit77.specs.Nesting.{is_executable, Nests}
use Rattle.unit77.specs.Programs.{ProgramUnit, IsUnit, AreUnits, reading_of, those, is_header, is_declared, is_function}
use Rattle.order77.specs.Settling.{as_function, arrays_ahead, functions_behind, is_text, settled, settled_as}
use Rattle.unit77.specs.Tree as nest
use Rattle.unit77.specs.Tree.{Line, Items, flat, first_line}
use Rattle.unit77.specs.Units.{uses_among, is_late}
use Rattle.parse77.specs.Reading.{Read, accepted, read_statement, outcome_from, outcome_of, card_outcome}
use Rattle.parse77.specs.Statement.{refusal_by, card_readings, file_readings}
use Rattle.program77.specs.Built.{Built, built_of}
use Rattle.program77.specs.Plain.{is_program, is_step, is_converted_header, is_converted_line, are_converted, is_none, is_converted, stmt_of, code_of, source_unit, one_converted}
use Rattle.names77.specs.Known.{known}
use Rattle.names77.specs.Text.{merged, text_of}
use Rattle.implicit_types.specs.Typing.{entities_of}
use Rattle.program77.specs.SourceReading.{built_in, ReadCard, read_of, built_unless, reading_card, Ended, join_code, read_code, text_with, text_from, unit_with, read_unit}
use Rattle.program77.specs.Tree as tree
use Rattle.program77.specs.Tree.{Code, SourceUnit}

-- a statement as it is read, where it has this place and this label
abbrev card_with : Place → ℕ → Option Built → ReadCard
card_with here label o = record { place = here; spelled = if label == 0 then o else None }

-- ---- statement functions: neither they nor the assignments that they are told from are converted

function_built : (x : Statement) → built_of (as_function x) ≡ built_of x
function_built (s.simple (s.assign (t.call f xs) e)) = refl
function_built x = refl

function_unless : (p : Option Refusal) (x : Option Statement) → built_unless p (option_map as_function x) ≡ built_unless p x
function_unless None None = refl
function_unless None (Some x) = function_built x
function_unless (Some r) x = refl

-- what of a statement isn't told by whether it is a statement function
module _ {A : Type 0} (shown : Reading → A) (same : (b : Bool) (r : Reading) → shown (settled_as (b, r)) ≡ shown r) where
  settled_from : (e : Bool) (xs : List (List ℕ)) (rs : List Reading) → map shown (map settled_as (zip (functions_behind e xs rs) rs)) ≡ map shown rs
  settled_from e xs [] = refl
  settled_from e xs (r ∷ rs) = go (is_end (counts_as r)) (settled_from false (arrays_ahead rs) rs) (λ d. settled_from d xs rs)
    where
      go : (c : Bool) → map shown (map settled_as (zip (functions_behind false (arrays_ahead rs) rs) rs)) ≡ map shown rs
          → ((d : Bool) → map shown (map settled_as (zip (functions_behind d xs rs) rs)) ≡ map shown rs)
          → map shown (map settled_as (zip (if c then false ∷ functions_behind false (arrays_ahead rs) rs else (let b = not e && is_text xs r in b ∷ functions_behind (e || (not b && counts_action (counts_as r))) xs rs)) (r ∷ rs)))
          ≡ shown r ∷ map shown rs
      go true ended next = ap (λ l. shown r ∷ l) ended
      go false ended next = let b = not e && is_text xs r in let d = e || (not b && counts_action (counts_as r)) in
          ap (λ c. c ∷ map shown (map settled_as (zip (functions_behind d xs rs) rs))) (same b r) ∙ ap (λ l. shown r ∷ l) (next d)

  settled_alike : (rs : List Reading) → map shown (settled rs) ≡ map shown rs
  settled_alike rs = settled_from false (arrays_ahead rs) rs

settled_card : (b : Bool) (r : Reading) → reading_card (settled_as (b, r)) ≡ reading_card r
settled_card true r = ap (card_with r.place r.label) (function_unless r.refusal r.statement)
settled_card false r = refl

abbrev number_of : Reading → ℕ
number_of r = r.number

settled_number : (b : Bool) (r : Reading) → number_of (settled_as (b, r)) ≡ number_of r
settled_number true r = refl
settled_number false r = refl

-- ---- cards

outcome_alike : (here : Place) (pieces : List Piece) (read : Read) → built_unless (refusal_by here (outcome_from pieces read)) (option_map (λ r. r.0) read) ≡ built_in (outcome_from pieces read)
outcome_alike here pieces None = refl
outcome_alike here pieces (Some (x, None)) = refl
outcome_alike here pieces (Some (x, Some p)) = refl

statement_alike : (here : Place) (label : ℕ) (pieces : List Piece) → built_unless (refusal_by here (outcome_of label pieces)) (option_map (λ r. r.0) (read_statement label pieces)) ≡ built_in (outcome_of label pieces)
statement_alike here label pieces = outcome_alike here pieces (read_statement label pieces)

cards_alike : (n : ℕ) (cards : List Card) → map reading_card (card_readings n cards) ≡ map read_of cards
cards_alike n [] = refl
cards_alike n (card ∷ cards) =
    ap (λ o. card_with card.place card.label o ∷ map reading_card (card_readings (suc n) cards)) (statement_alike card.place card.label _)
    ∙ ap (λ l. read_of card ∷ l) (cards_alike (suc n) cards)

pub read_alike : (cards : List Card) → map reading_card (file_readings cards) ≡ map read_of cards
read_alike cards = settled_alike reading_card settled_card (card_readings 0 cards) ∙ cards_alike 0 cards

-- the statement of a line as it is read
abbrev line_card : Line → ReadCard
line_card l = reading_card (reading_of l)

readings_alike : (ls : List Line) → map reading_card (map reading_of ls) ≡ map line_card ls
readings_alike [] = refl
readings_alike (l ∷ ls) = ap (λ r. line_card l ∷ r) (readings_alike ls)

-- ---- tests

never : (a b : Bool) → ((a && false) && b) ≡ false
never true b = refl
never false b = refl

and_assoc : (a b c : Bool) → (a && (b && c)) ≡ ((a && b) && c)
and_assoc true b c = refl
and_assoc false b c = refl

-- ---- sorts of statements that are converted

abbrev is_plain : Sort → Bool
is_plain Plain = true
is_plain Leaving = true
is_plain k = false

step_plain : (x : Statement) → is_plain (sort_of x) ≡ false → is_step (built_of x) ≡ false
step_plain (s.simple (s.assign (t.name v) y)) e = absurd cc
step_plain (s.simple s.continue) e = absurd cc
step_plain (s.simple (s.stop None)) e = absurd cc
step_plain (s.header (s.program v)) e = refl
step_plain x e = refl

step_executable : (x : Statement) → is_step (built_of x) ≡ true → is_executable x ≡ true
step_executable (s.header (s.program v)) e = absurd cc
step_executable (s.header h) e = absurd cc
step_executable (s.declared d) e = absurd cc
step_executable (s.statement_function f ds y) e = absurd cc
step_executable s.end e = absurd cc
step_executable x e = refl

program_header : (x : Statement) → is_program (built_of x) ≡ true → is_header x ≡ true
program_header (s.header h) e = refl
program_header (s.simple (s.assign (t.name v) y)) e = absurd cc
program_header (s.simple s.continue) e = absurd cc
program_header (s.simple (s.stop None)) e = absurd cc
program_header x e = absurd cc

header_stays : (x : Statement) → is_header x ≡ true → is_executable x ≡ false
header_stays (s.header h) e = refl
header_stays x e = absurd cc

-- what is no header isn't a PROGRAM
no_program : (x : Statement) → is_header x ≡ false → is_program (built_of x) ≡ false
no_program (s.header h) e = absurd cc
no_program (s.simple (s.assign (t.name v) y)) e = refl
no_program (s.simple s.continue) e = refl
no_program (s.simple (s.stop None)) e = refl
no_program x e = refl

-- ---- what is read of the statements of a unit

-- a list of statements without labels
abbrev code_from : List Line → Code
code_from [] = tree.done
code_from (l ∷ ls) = tree.item 0 l.place (stmt_of l.statement) (code_from ls)

abbrev listed : Bool → Code → Place → Option Ended
listed b code last = if b then Some (code, last) else None

abbrev united : Bool → List Line → List ℕ → Place → Code → Place → Option SourceUnit
united b text x here code last = if b then Some (record { name = x; place = here; entities = entities_of (known text); code = code; end = last }) else None

-- a statement of a unit that is neither its header nor its END
record IsInner (l : Line) : Type 0 where
  pub headless : is_header l.statement ≡ false
  pub endless : l.statement ≡ s.end → ⊥

abbrev Each : (Line → Type 0) → List Line → Type 0
Each P [] = Unit {0}
Each P (l ∷ ls) = P l × Each P ls

each : (P : Line → Type 0) (own : List Line) → ((before rest : List Line) (l : Line) → own ≡ before ++ l ∷ rest → P l) → Each P own
each P [] f = tt
each P (l ∷ ls) f = (f [] ls l refl, each P ls (λ before rest m e. f (l ∷ before) rest m (ap (λ r. l ∷ r) e)))

step_read : (here : Place) (b : Bool) (x : Statement) (rest : List ReadCard) (c : Bool) (code : Code) (last : Place) → (x ≡ s.end → ⊥)
    → option_and_then (λ z. join_code here z rest (listed c code last)) (if b then built_of x else None) ≡ listed ((b && is_step (built_of x)) && c) (tree.item 0 here (stmt_of x) code) last
step_read here false x rest c code last inner = refl
step_read here true (s.simple (s.assign (t.name v) y)) rest true code last inner = refl
step_read here true (s.simple (s.assign (t.name v) y)) rest false code last inner = refl
step_read here true (s.simple s.continue) rest true code last inner = refl
step_read here true (s.simple s.continue) rest false code last inner = refl
step_read here true (s.simple (s.stop None)) rest true code last inner = refl
step_read here true (s.simple (s.stop None)) rest false code last inner = refl
step_read here true (s.header (s.program v)) rest c code last inner = refl
step_read here true s.end rest c code last inner = absurd (inner refl)
step_read here true x rest c code last inner = refl

end_read : (here : Place) (b : Bool) (rest : List Line) (more : Option Ended)
    → option_and_then (λ z. join_code here z (map line_card rest) more) (if b then built_of s.end else None) ≡ listed (is_none rest && b) tree.done here
end_read here true [] more = refl
end_read here true (l ∷ ls) more = refl
end_read here false [] more = refl
end_read here false (l ∷ ls) more = refl

code_read : (own : List Line) (e : Line) (rest : List Line) → Each IsInner own → e.statement ≡ s.end
    → read_code (map line_card (own ++ e ∷ rest)) ≡ listed (list_all is_converted_line own && (is_none rest && (e.label == 0))) (code_from own) e.place
code_read [] e rest inner ends =
    ap (λ x. option_and_then (λ z. join_code e.place z (map line_card rest) (read_code (map line_card rest))) (if e.label == 0 then built_of x else None)) ends
    ∙ end_read e.place (e.label == 0) rest (read_code (map line_card rest))
code_read (x ∷ own) e rest inner ends =
    let c = list_all is_converted_line own && (is_none rest && (e.label == 0)) in
    ap (λ m. option_and_then (λ z. join_code x.place z (map line_card (own ++ e ∷ rest)) m) (if x.label == 0 then built_of x.statement else None)) (code_read own e rest inner.1 ends)
    ∙ step_read x.place (x.label == 0) x.statement (map line_card (own ++ e ∷ rest)) c (code_from own) e.place inner.0.endless
    ∙ ap (λ b. listed b (code_from (x ∷ own)) e.place) (and_assoc (is_converted_line x) (list_all is_converted_line own) (is_none rest && (e.label == 0)))

header_read : (text : List Line) (here : Place) (b : Bool) (x : Statement) (c : Bool) (code : Code) (last : Place)
    → option_and_then (λ z. unit_with text here z (listed c code last)) (if b then built_of x else None) ≡ united ((b && is_program (built_of x)) && c) text (name_or_main (own_names x)) here code last
header_read text here false x c code last = refl
header_read text here true (s.header (s.program v)) true code last = refl
header_read text here true (s.header (s.program v)) false code last = refl
header_read text here true (s.simple (s.assign (t.name v) y)) c code last = refl
header_read text here true (s.simple s.continue) c code last = refl
header_read text here true (s.simple (s.stop None)) c code last = refl
header_read text here true x c code last = refl

-- the text of some statements
abbrev text_read : List Line → List Line
text_read ls = text_from 0 (map line_card ls)

-- where a unit begins with a statement and ends with another
unit_lines_read : (x : Line) (own : List Line) (e : Line) (rest : List Line) → Each IsInner own → e.statement ≡ s.end
    → read_unit (map line_card (x ∷ (own ++ e ∷ rest)))
    ≡ united (is_converted_header (x ∷ []) && (list_all is_converted_line own && (is_none rest && (e.label == 0)))) (text_read (x ∷ (own ++ e ∷ rest))) (name_or_main (own_names x.statement)) x.place (code_from own) e.place
unit_lines_read x own e rest inner ends =
    ap (λ m. option_and_then (λ z. unit_with (text_read (x ∷ (own ++ e ∷ rest))) x.place z m) (if x.label == 0 then built_of x.statement else None)) (code_read own e rest inner ends)
    ∙ header_read (text_read (x ∷ (own ++ e ∷ rest))) x.place (x.label == 0) x.statement (list_all is_converted_line own && (is_none rest && (e.label == 0))) (code_from own) e.place

-- no unit begins with END
end_alone : (text : List Line) (here : Place) (b : Bool) (more : Option Ended) → option_and_then (λ z. unit_with text here z more) (if b then built_of s.end else None) ≡ None
end_alone text here true more = refl
end_alone text here false more = refl

empty_read : (e : Line) (rest : List Line) → e.statement ≡ s.end → read_unit (map line_card (e ∷ rest)) ≡ None
empty_read e rest ends =
    ap (λ x. option_and_then (λ z. unit_with (text_read (e ∷ rest)) e.place z (read_code (map line_card rest))) (if e.label == 0 then built_of x else None)) ends
    ∙ end_alone (text_read (e ∷ rest)) e.place (e.label == 0) (read_code (map line_card rest))

-- ---- the text of a unit

abbrev line : ℕ → ℕ → Place → Statement → Line
line n k p x = record { number = n; label = k; place = p; statement = x }

-- the statements are numbered one after another
abbrev AreNumbered : ℕ → List Line → Type 0
AreNumbered n [] = Unit {0}
AreNumbered n (l ∷ ls) = (l.number ≡ n) × AreNumbered (suc n) ls

first_numbered : (n : ℕ) (xs ys : List Line) → AreNumbered n (xs ++ ys) → AreNumbered n xs
first_numbered n [] ys h = tt
first_numbered n (x ∷ xs) ys h = (h.0, first_numbered (suc n) xs ys h.1)

step_text : (n : ℕ) (p : Place) (x : Statement) (rest : List Line) → is_step (built_of x) ≡ true → text_with n p (built_of x) rest ≡ line n 0 p x ∷ rest
step_text n p (s.simple (s.assign (t.name v) y)) rest e = refl
step_text n p (s.simple s.continue) rest e = refl
step_text n p (s.simple (s.stop None)) rest e = refl
step_text n p (s.header (s.program v)) rest e = absurd cc
step_text n p x rest e = absurd cc

header_text : (n : ℕ) (p : Place) (x : Statement) (rest : List Line) → is_program (built_of x) ≡ true → text_with n p (built_of x) rest ≡ line n 0 p x ∷ rest
header_text n p (s.header (s.program v)) rest e = refl
header_text n p (s.simple (s.assign (t.name v) y)) rest e = absurd cc
header_text n p (s.simple s.continue) rest e = absurd cc
header_text n p (s.simple (s.stop None)) rest e = absurd cc
header_text n p x rest e = absurd cc

end_text : (n : ℕ) (p : Place) (b : Bool) (rest : List Line) → text_with n p (if b then built_of s.end else None) rest ≡ rest
end_text n p true rest = refl
end_text n p false rest = refl

-- a line whose number and label are these
same_line : (l : Line) (n : ℕ) → l.number ≡ n → l.label ≡ 0 → line n 0 l.place l.statement ≡ l
same_line l n number label = λ i. record { number = sym number i; label = sym label i; place = l.place; statement = l.statement }

-- the text of a statement that is converted
line_text : (n : ℕ) (l : Line) (rest : List Line) (f : Option Built → Bool) → ((x : Statement) → f (built_of x) ≡ true → text_with n l.place (built_of x) rest ≡ line n 0 l.place x ∷ rest)
    → l.number ≡ n → ((l.label == 0) && f (built_of l.statement)) ≡ true → text_with n l.place (if l.label == 0 then built_of l.statement else None) rest ≡ l ∷ rest
line_text n l rest f text number e =
    let parts = and_parts (l.label == 0) (f (built_of l.statement)) e in
    ap (λ b. text_with n l.place (if b then built_of l.statement else None) rest) parts.0 ∙ text l.statement parts.1
    ∙ ap (λ x. x ∷ rest) (same_line l n number (eqb-true l.label 0 parts.0))

own_text : (n : ℕ) (own : List Line) (e : Line) → AreNumbered n own → list_all is_converted_line own ≡ true → e.statement ≡ s.end → text_from n (map line_card (own ++ e ∷ [])) ≡ own
own_text n [] e numbered all ends = ap (λ x. text_with n e.place (if e.label == 0 then built_of x else None) []) ends ∙ end_text n e.place (e.label == 0) []
own_text n (x ∷ own) e numbered all ends =
    let parts = and_parts (is_converted_line x) (list_all is_converted_line own) all in
    ap (λ ls. text_with n x.place (if x.label == 0 then built_of x.statement else None) ls) (own_text (suc n) own e numbered.1 parts.1 ends)
    ∙ line_text n x own is_step (λ y. step_text n x.place y own) numbered.0 parts.0

unit_text : (x : Line) (own : List Line) (e : Line) → AreNumbered 0 (x ∷ own) → is_converted_header (x ∷ []) ≡ true → list_all is_converted_line own ≡ true → e.statement ≡ s.end
    → text_read (x ∷ (own ++ e ∷ [])) ≡ x ∷ own
unit_text x own e numbered header all ends =
    ap (λ ls. text_with 0 x.place (if x.label == 0 then built_of x.statement else None) ls) (own_text 1 own e numbered.1 all ends)
    ∙ line_text 0 x own is_program (λ y. header_text 0 x.place y own) numbered.0 header

-- ---- what stands behind the first statement of a unit

counted : (x : Statement) → counts_nothing (counts_of x) ≡ false
counted (s.declared (s.implicit xs)) = refl
counted (s.declared d) = refl
counted (s.simple s.return_) = refl
counted (s.simple a) = refl
counted (s.guarded y s.return_) = refl
counted (s.guarded y a) = refl
counted x = refl

later : (x : Line) (before : List Reading) (y : Statement) (late : Bool) → (is_misplaced (reading_of x ∷ before) (counts_of y) || late) ≡ false → is_header y ≡ false
later x before (s.header h) late e = absurd (let wrong : true ≡ false = ap (λ b. not (b && is_first before) || late) (sym (counted x.statement)) ∙ e in cc)
later x before y late e = refl

inner_lines : (x : Line) (own : List Line) (unit : ProgramUnit) → IsUnit (x ∷ own) unit → Each IsInner own
inner_lines x own unit is = each IsInner own (λ before rest l e. record {
  headless = later x (map reading_of before) l.statement (is_late (uses_among (map reading_of (x ∷ before))) (reading_of l)) (is.ordered (x ∷ before) rest l (ap (λ r. x ∷ r) e));
  endless = is.inside (x ∷ before) rest l (ap (λ r. x ∷ r) e);
})

headless_own : (own : List Line) → Each IsInner own → those is_header own ≡ []
headless_own [] inner = refl
headless_own (x ∷ own) inner = ap (λ b. if b then x ∷ those is_header own else those is_header own) inner.0.headless ∙ headless_own own inner.1

executable_own : (own : List Line) → list_all is_converted_line own ≡ true → those is_executable own ≡ own
executable_own [] all = refl
executable_own (x ∷ own) all =
    let parts = and_parts (is_converted_line x) (list_all is_converted_line own) all in
    ap (λ b. if b then x ∷ those is_executable own else those is_executable own) (step_executable x.statement (and_parts (x.label == 0) (is_step (built_of x.statement)) parts.0).1)
    ∙ ap (λ ls. x ∷ ls) (executable_own own parts.1)

-- ---- what is converted, by the statements of a unit

-- what stands behind the header is converted, and so is END
abbrev is_converted_rest : List Line → Bool → Bool
is_converted_rest own e = is_none (those is_declared own) && (is_none (those is_function own) && (list_all is_converted_line (those is_executable own) && e))

one_more : (c d f xs all e : Bool) → (d && (f && (xs && e))) ≡ (all && e) → (d && (f && ((c && xs) && e))) ≡ ((c && all) && e)
one_more true d f xs all e same = same
one_more false true true xs all e same = refl
one_more false true false xs all e same = refl
one_more false false f xs all e same = refl

none_so_far : (d a b c : Bool) → (d && false) ≡ (((a && false) && b) && c)
none_so_far true true b c = refl
none_so_far true false b c = refl
none_so_far false true b c = refl
none_so_far false false b c = refl

inner_more : (n k : ℕ) (p : Place) (x : Statement) (own : List Line) (e : Bool) → is_header x ≡ false → (x ≡ s.end → ⊥)
    → is_converted_rest own e ≡ (list_all is_converted_line own && e) → is_converted_rest (line n k p x ∷ own) e ≡ (list_all is_converted_line (line n k p x ∷ own) && e)
inner_more n k p (s.header h) own e headless endless same = absurd cc
inner_more n k p (s.declared d) own e headless endless same = none_so_far true (k == 0) (list_all is_converted_line own) e
inner_more n k p (s.statement_function f ds y) own e headless endless same = none_so_far (is_none (those is_declared own)) (k == 0) (list_all is_converted_line own) e
inner_more n k p s.end own e headless endless same = absurd (endless refl)
inner_more n k p x own e headless endless same =
    one_more ((k == 0) && is_step (built_of x)) (is_none (those is_declared own)) (is_none (those is_function own)) (list_all is_converted_line (those is_executable own)) (list_all is_converted_line own) e same

inner_converted : (own : List Line) (e : Bool) → Each IsInner own → is_converted_rest own e ≡ (list_all is_converted_line own && e)
inner_converted [] e inner = refl
inner_converted (x ∷ own) e inner = inner_more x.number x.label x.place x.statement own e inner.0.headless inner.0.endless (inner_converted own e inner.1)

header_more : (n k : ℕ) (p : Place) (x : Statement) (own : List Line) (e : Bool) → those is_header own ≡ [] → is_converted_rest own e ≡ (list_all is_converted_line own && e)
    → (is_converted_header (those is_header (line n k p x ∷ own)) && is_converted_rest (line n k p x ∷ own) e) ≡ (is_converted_header (line n k p x ∷ []) && (list_all is_converted_line own && e))
header_more n k p (s.header h) own e none same =
    ap (λ hs. is_converted_header (line n k p (s.header h) ∷ hs) && is_converted_rest own e) none ∙ ap (λ b. is_converted_header (line n k p (s.header h) ∷ []) && b) same
header_more n k p x own e none same =
    ap (λ hs. is_converted_header hs && is_converted_rest (line n k p x ∷ own) e) none
    ∙ sym (never (k == 0) (list_all is_converted_line own && e)) ∙ ap (λ b. ((k == 0) && b) && (list_all is_converted_line own && e)) (sym (no_program x refl))

-- items, by their statements
not_converted : (l : Line) (r : Bool) → is_plain (sort_of l.statement) ≡ false → (is_converted_line l && r) ≡ false
not_converted l r e = ap (λ b. ((l.label == 0) && b) && r) (step_plain l.statement e) ∙ never (l.label == 0) r

items_alike : (b : Bool) (open_ : List Mark) (items : Items) → Nests b open_ items → list_all is_converted_line (flat items) ≡ are_converted items
items_alike b open_ nest.done n = refl
items_alike b open_ (nest.simple l more) (inl n) = ap (λ r. is_converted_line l && r) (items_alike b open_ more n.1)
items_alike b open_ (nest.simple l more) (inr n) = ap (λ r. is_converted_line l && r) (ap (λ x. list_all is_converted_line (flat x)) n.3 ∙ ap are_converted (sym n.3))
items_alike b open_ (nest.loop l inside more) n = not_converted l (list_all is_converted_line (flat inside ++ flat more)) (ap is_plain n.1)
items_alike b open_ (nest.block arms e more) n = not_converted (first_line arms) (list_all is_converted_line (nest.flat_arms arms ++ e ∷ flat more)) (ap is_plain n.0)

code_alike : (items : Items) → are_converted items ≡ true → code_of items ≡ code_from (flat items)
code_alike nest.done all = refl
code_alike (nest.simple l more) all =
    let parts = and_parts (is_converted_line l) (are_converted more) all in
    ap (λ k. tree.item k l.place (stmt_of l.statement) (code_of more)) (eqb-true l.label 0 (and_parts (l.label == 0) (is_step (built_of l.statement)) parts.0).0)
    ∙ ap (tree.item 0 l.place (stmt_of l.statement)) (code_alike more parts.1)
code_alike (nest.loop l inside more) all = absurd cc
code_alike (nest.block arms e more) all = absurd cc

-- ---- units

-- the executable statements of a unit and its items are converted alike
executables_alike : (own : List Line) (unit : ProgramUnit) → IsUnit own unit → are_converted unit.items ≡ list_all is_converted_line (those is_executable own)
executables_alike own unit is = sym (items_alike false [] unit.items is.nested.1) ∙ ap (list_all is_converted_line) is.nested.0

converted_alike : (x : Line) (own : List Line) (unit : ProgramUnit) → IsUnit (x ∷ own) unit → Each IsInner own
    → (is_converted_header (x ∷ []) && (list_all is_converted_line own && (unit.last.label == 0))) ≡ is_converted unit
converted_alike x own unit is inner = sym (
    (λ i. is_converted_header (is.headers i) && (is_none (is.declared i) && (is_none (is.functions i) && (executables_alike (x ∷ own) unit is i && (unit.last.label == 0)))))
    ∙ header_more x.number x.label x.place x.statement own (unit.last.label == 0) (headless_own own inner) (inner_converted own (unit.last.label == 0) inner))

-- a list that has nothing
nothing_in : (ls : List Line) → is_none ls ≡ true → ls ≡ []
nothing_in [] e = refl
nothing_in (l ∷ ls) e = absurd cc

-- the parts of a unit that is converted
record AreParts (x : Line) (own : List Line) (unit : ProgramUnit) : Type 0 where
  pub headers : unit.headers ≡ x ∷ []
  pub steps : flat unit.items ≡ own
  pub text : text_of unit ≡ x ∷ own

parts_of : (x : Line) (own : List Line) (unit : ProgramUnit) → IsUnit (x ∷ own) unit → Each IsInner own → is_header x.statement ≡ true → list_all is_converted_line own ≡ true → is_converted unit ≡ true
    → AreParts x own unit
parts_of x own unit is inner header all converted =
    let headers : unit.headers ≡ x ∷ [] =
    is.headers ∙ ap (λ b. if b then x ∷ those is_header own else those is_header own) header ∙ ap (λ hs. x ∷ hs) (headless_own own inner) in
    let steps : flat unit.items ≡ own =
    is.nested.0 ∙ ap (λ b. if b then x ∷ those is_executable own else those is_executable own) (header_stays x.statement header) ∙ executable_own own all in
    let first = and_parts (is_converted_header unit.headers) _ converted in
    let second = and_parts (is_none unit.declared) _ first.1 in
    let third = and_parts (is_none unit.functions) _ second.1 in
    record {
      headers = headers;
      steps = steps;
      text = (λ i. headers i ++ merged (merged (nothing_in unit.declared second.0 i) (nothing_in unit.functions third.0 i)) (steps i));
    }

source_alike : (x : Line) (own : List Line) (unit : ProgramUnit) (text : List Line) → IsUnit (x ∷ own) unit → AreParts x own unit → text ≡ x ∷ own → list_all is_converted_line own ≡ true
    → record { name = name_or_main (own_names x.statement); place = x.place; entities = entities_of (known text); code = code_from own; end = unit.last.place } ≡ source_unit unit
source_alike x own unit text is parts same all =
    let names : List Line → List ℕ = λ hs. name_or_main (flat_map (λ (l : Line). own_names l.statement) hs) in
    let name : names unit.headers ≡ name_or_main (own_names x.statement) = ap names parts.headers ∙ ap name_or_main (append-nil (own_names x.statement)) in
    let code : code_of unit.items ≡ code_from own =
    code_alike unit.items (executables_alike (x ∷ own) unit is ∙ ap (list_all is_converted_line) (sym is.nested.0 ∙ parts.steps) ∙ all) ∙ ap code_from parts.steps in
    λ i. record { name = sym name i; place = sym is.place i; entities = entities_of (known ((same ∙ sym parts.text) i)); code = sym code i; end = unit.last.place }

some_if : {A : Type 0} (b c : Bool) (x y : A) → b ≡ c → (b ≡ true → x ≡ y) → (if b then Some x else None) ≡ (if c then Some y else None)
some_if true c x y same alike = ap Some (alike refl) ∙ ap (λ d. if d then Some y else None) same
some_if false c x y same alike = ap (λ d. if d then Some y else None) same

-- one unit alone
one_read : (own : List Line) (unit : ProgramUnit) → IsUnit own unit → AreNumbered 0 own → read_unit (map line_card (own ++ unit.last ∷ [])) ≡ (if is_converted unit then Some (source_unit unit) else None)
one_read [] unit is numbered =
    let rest = is_none unit.declared && (is_none unit.functions && (are_converted unit.items && (unit.last.label == 0))) in
    empty_read unit.last [] is.ends ∙ ap (λ hs. if is_converted_header hs && rest then Some (source_unit unit) else None) (sym is.headers)
one_read (x ∷ own) unit is numbered =
    let inner = inner_lines x own unit is in
    let all = list_all is_converted_line own && (unit.last.label == 0) in
    unit_lines_read x own unit.last [] inner is.ends
    ∙ some_if (is_converted_header (x ∷ []) && all) (is_converted unit) _ _ (converted_alike x own unit is inner)
    (λ e. let parts = and_parts (is_converted_header (x ∷ [])) all e in
    let each = (and_parts (list_all is_converted_line own) (unit.last.label == 0) parts.1).0 in
    let header = program_header x.statement (and_parts (x.label == 0) (is_program (built_of x.statement)) parts.0).1 in
    source_alike x own unit _ is (parts_of x own unit is inner header each (sym (converted_alike x own unit is inner) ∙ e)) (unit_text x own unit.last numbered parts.0 each is.ends) each)

-- the text of one unit alone
text_alike : (own : List Line) (unit : ProgramUnit) → IsUnit own unit → AreNumbered 0 own → is_converted unit ≡ true → text_read (own ++ unit.last ∷ []) ≡ text_of unit
text_alike [] unit is numbered converted = absurd (let wrong : false ≡ true = ap is_converted_header (sym is.headers) ∙ (and_parts (is_converted_header unit.headers) _ converted).0 in cc)
text_alike (x ∷ own) unit is numbered converted =
    let inner = inner_lines x own unit is in
    let parts = and_parts (is_converted_header (x ∷ [])) _ (converted_alike x own unit is inner ∙ converted) in
    let each = (and_parts (list_all is_converted_line own) (unit.last.label == 0) parts.1).0 in
    let header = program_header x.statement (and_parts (x.label == 0) (is_program (built_of x.statement)) parts.0).1 in
    unit_text x own unit.last numbered parts.0 each is.ends ∙ sym (parts_of x own unit is inner header each converted).text

-- others behind it
united_none : (b c : Bool) (text : List Line) (x : List ℕ) (here : Place) (code : Code) (last : Place) → united (b && (c && false)) text x here code last ≡ None
united_none true true text x here code last = refl
united_none true false text x here code last = refl
united_none false c text x here code last = refl

several_read : (own : List Line) (unit : ProgramUnit) (rest : List Line) → IsUnit own unit → is_none rest ≡ false → read_unit (map line_card (own ++ unit.last ∷ rest)) ≡ None
several_read [] unit rest is some = empty_read unit.last rest is.ends
several_read (x ∷ own) unit rest is some =
    let name = name_or_main (own_names x.statement) in
    let text = text_read (x ∷ (own ++ unit.last ∷ rest)) in
    unit_lines_read x own unit.last rest (inner_lines x own unit is) is.ends
    ∙ ap (λ b. united (is_converted_header (x ∷ []) && (list_all is_converted_line own && (b && (unit.last.label == 0)))) text name x.place (code_from own) unit.last.place) some
    ∙ united_none (is_converted_header (x ∷ [])) (list_all is_converted_line own) text name x.place (code_from own) unit.last.place

some_left : (own : List Line) (e : Line) (rest : List Line) → is_none (own ++ e ∷ rest) ≡ false
some_left [] e rest = refl
some_left (x ∷ own) e rest = refl

units_read : (ls : List Line) (us : List ProgramUnit) → AreUnits ls us → AreNumbered 0 ls → read_unit (map line_card ls) ≡ one_converted us
units_read ls [] none numbered = ap (λ l. read_unit (map line_card l)) none
units_read ls (unit ∷ []) (own, rest, cut, is, none) numbered =
    ap (λ l. read_unit (map line_card l)) (cut ∙ ap (λ r. own ++ unit.last ∷ r) none) ∙ one_read own unit is (first_numbered 0 own (unit.last ∷ rest) (subst (AreNumbered 0) cut numbered))
units_read ls (unit ∷ next ∷ us) (own, rest, cut, is, further) numbered =
    ap (λ l. read_unit (map line_card l)) cut ∙ several_read own unit rest is (ap is_none further.2 ∙ some_left further.0 next.last further.1)

text_is : (ls : List Line) (unit : ProgramUnit) → AreUnits ls (unit ∷ []) → AreNumbered 0 ls → is_converted unit ≡ true → text_read ls ≡ text_of unit
text_is ls unit (own, rest, cut, is, none) numbered converted =
    ap text_read (cut ∙ ap (λ r. own ++ unit.last ∷ r) none) ∙ text_alike own unit is (first_numbered 0 own (unit.last ∷ rest) (subst (AreNumbered 0) cut numbered)) converted

-- ---- numbers of statements

spelled_numbered : (n : ℕ) (cards : List Card) (ls : List Line) → SpellLines n cards ls → AreNumbered n ls
spelled_numbered n [] ls p = subst (AreNumbered n) (sym p) tt
spelled_numbered n (card ∷ cards) [] p = tt
spelled_numbered n (card ∷ cards) (l ∷ ls) p = (p.0.number, spelled_numbered (suc n) cards ls p.1)

same_numbers : (n : ℕ) (xs ys : List Line) → map number_of (map reading_of xs) ≡ map number_of (map reading_of ys) → AreNumbered n ys → AreNumbered n xs
same_numbers n [] ys e h = tt
same_numbers n (x ∷ xs) [] e h = absurd cc
same_numbers n (x ∷ xs) (y ∷ ys) e h = let heads : x.number ≡ y.number = cc in let tails : map number_of (map reading_of xs) ≡ map number_of (map reading_of ys) = cc in
    (heads ∙ h.0, same_numbers (suc n) xs ys tails h.1)

units_numbered : (cards : List Card) (us : List ProgramUnit) (a : AreUnitsOf cards us) → AreNumbered 0 a.lines
units_numbered cards us a =
    same_numbers 0 a.lines a.spelled (ap (map number_of) a.told ∙ settled_alike number_of settled_number (map reading_of a.spelled)) (spelled_numbered 0 cards a.spelled a.spells)

-- ---- cards of units

-- each card has the statement that it spells
module _ (card_only : (card : Card) (x : Statement) → SpellsCard card x → card_outcome card ≡ accepted x) where
  spelled_line : (n : ℕ) (card : Card) (l : Line) → SpellsLine n card l → read_of card ≡ line_card l
  spelled_line n card l p =
      ap (λ o. card_with card.place card.label (built_in o)) (card_only card l.statement p.spelled)
      ∙ (λ i. card_with (sym p.place i) (sym p.label i) (built_of l.statement))

  spelled_lines : (n : ℕ) (cards : List Card) (ls : List Line) → SpellLines n cards ls → map read_of cards ≡ map line_card ls
  spelled_lines n [] ls p = ap (map line_card) (sym p)
  spelled_lines n (card ∷ cards) [] p = absurd p
  spelled_lines n (card ∷ cards) (l ∷ ls) p = ap (λ c. c ∷ map read_of cards) (spelled_line n card l p.0) ∙ ap (λ r. line_card l ∷ r) (spelled_lines (suc n) cards ls p.1)

  -- what is read of the cards is what is read of the statements of the units
  lines_alike : (cards : List Card) (us : List ProgramUnit) (a : AreUnitsOf cards us) → map read_of cards ≡ map line_card a.lines
  lines_alike cards us a =
      spelled_lines 0 cards a.spelled a.spells ∙ sym (readings_alike a.spelled) ∙ sym (settled_alike reading_card settled_card (map reading_of a.spelled))
      ∙ ap (map reading_card) (sym a.told) ∙ readings_alike a.lines

  pub unit_read : (cards : List Card) (us : List ProgramUnit) → AreUnitsOf cards us → read_unit (map read_of cards) ≡ one_converted us
  unit_read cards us a = ap read_unit (lines_alike cards us a) ∙ units_read a.lines us a.units (units_numbered cards us a)

  pub text_read_is : (cards : List Card) (unit : ProgramUnit) → AreUnitsOf cards (unit ∷ []) → is_converted unit ≡ true → text_from 0 (map read_of cards) ≡ text_of unit
  text_read_is cards unit a converted = ap (text_from 0) (lines_alike cards (unit ∷ []) a) ∙ text_is a.lines unit a.units (units_numbered cards (unit ∷ []) a) converted
