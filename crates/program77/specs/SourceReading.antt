-- The reading of a source as a function: what it gives is what the source spells, and nothing else is spelled.
use Rattle.std.specs.Prelude.{ℕ, suc, ◌==◌, List, [], ◌∷◌, ◌++◌, map, Option, Some, None, if◌then◌else◌}
use Rattle.std.specs.Option.{option_map, option_and_then}
use Rattle.text_base.specs.Cards.{Card, cards}
use Rattle.text_base.specs.LineRefusals.{card_refusals}
use Rattle.text_base.specs.Trees as t
use Rattle.text_base.specs.declared.refusal.Place.{Place}
use Rattle.text_base.specs.declared.refusal.Refusal.{Refusal}
use Rattle.program77.specs.Built.{Built, built_of, program, action, continue, end_of_unit}
use Rattle.program77.specs.Tree as tree
use Rattle.program77.specs.Tree.{Code, done, item, SourceUnit, SourceProgram}
use Rattle.tree77.specs.Statements as s
use Rattle.tree77.specs.Statements.{Statement}
use Rattle.unit77.specs.Tree.{Line}
use Rattle.names77.specs.Known.{known}
use Rattle.implicit_types.specs.Typing.{Refused, entities_of, refusals_in}
use Rattle.order77.specs.Counts.{Reading}
use Rattle.parse77.specs.Reading.{Outcome, accepted, rejected, card_outcome}
use Rattle.parse77.specs.Statement.{deck_refusals}

-- the statement that is converted, if it is one and has no label
abbrev pub built_in : Outcome → Option Built
built_in (accepted x) = built_of x
built_in (rejected p) = None

abbrev pub built_at : ℕ → Outcome → Option Built
built_at label outcome = if label == 0 then built_in outcome else None

-- the statement that a card without a label spells, if it is one that is converted
abbrev pub read_card : Card → Option Built
read_card card = built_at card.label (card_outcome card)

-- a statement of a file as it was read: its place, and what it spells where it has no label and spells something
pub record ReadCard : Type 0 where
  pub place : Place
  pub spelled : Option Built

-- what is read of a statement
abbrev pub read_of : Card → ReadCard
read_of card = record { place = card.place; spelled = read_card card }

-- the same of a statement that was read
abbrev pub built_unless : Option Refusal → Option Statement → Option Built
built_unless None x = option_and_then built_of x
built_unless (Some r) x = None

abbrev pub reading_card : Reading → ReadCard
reading_card r = record { place = r.place; spelled = if r.label == 0 then built_unless r.refusal r.statement else None }

-- ---- lists and units

-- a list with the place of its END
abbrev pub Ended : Type 0
Ended = Code × Place

-- END ends the list where nothing follows it
abbrev pub ended_at : Place → List ReadCard → Option Ended
ended_at last [] = Some (done, last)
ended_at last (next ∷ rest) = None

-- one statement more, which ends the list or goes before those that follow
abbrev pub join_code : Place → Built → List ReadCard → Option Ended → Option Ended
join_code here (program x) rest more = None
join_code here (action a) rest more = option_map (λ (r : Ended). (item 0 here (tree.simple a) r.0, r.1)) more
join_code here continue rest more = option_map (λ (r : Ended). (item 0 here tree.continue r.0, r.1)) more
join_code here end_of_unit rest more = ended_at here rest

-- the list of some statements
abbrev pub read_code : List ReadCard → Option Ended
read_code [] = None
read_code (read ∷ rest) = option_and_then (λ s. join_code read.place s rest (read_code rest)) read.spelled

-- ---- the text of a unit

-- the statement that this one is
abbrev pub statement_of : Built → Statement
statement_of (program x) = s.header (s.program x)
statement_of (action (t.assign d e)) = s.simple (s.assign d e)
statement_of (action t.stop) = s.simple (s.stop None)
statement_of continue = s.simple s.continue
statement_of end_of_unit = s.end

abbrev pub line_of : ℕ → Place → Built → Line
line_of n here b = record { number = n; label = 0; place = here; statement = statement_of b }

-- a statement among those of a unit's text; END is none of them
abbrev pub text_with : ℕ → Place → Option Built → List Line → List Line
text_with n here None rest = rest
text_with n here (Some end_of_unit) rest = rest
text_with n here (Some b) rest = line_of n here b ∷ rest

-- the text of a unit, whose first statement has this number
abbrev pub text_from : ℕ → List ReadCard → List Line
text_from n [] = []
text_from n (read ∷ rest) = text_with n read.place read.spelled (text_from (suc n) rest)

-- what is refused of the names of its statements and their types
abbrev pub type_refusals : List ReadCard → List Refused
type_refusals reads = refusals_in (text_from 0 reads)

-- ---- units

-- the unit that begins with a statement, where this list stands behind it, and this is its text
abbrev pub unit_with : List Line → Place → Built → Option Ended → Option SourceUnit
unit_with text here (program x) ended = option_map (λ (r : Ended). record { name = x; place = here; entities = entities_of (known text); code = r.0; end = r.1 }) ended
unit_with text here (action a) ended = None
unit_with text here continue ended = None
unit_with text here end_of_unit ended = None

-- the main program of some statements: PROGRAM, a list, and END
abbrev pub read_unit : List ReadCard → Option SourceUnit
read_unit [] = None
read_unit (read ∷ rest) = option_and_then (λ s. unit_with (text_from 0 (read ∷ rest)) read.place s (read_code rest)) read.spelled

-- the statements of a file as they are read
abbrev pub file_statements : ℕ → List ℕ → List ReadCard
file_statements file bytes = map read_of (cards file bytes)

-- what is read where nothing is refused
abbrev pub unless_refused : {R X : Type 0} → List R → Option X → Option X
unless_refused [] read = read
unless_refused (first ∷ rest) read = None

-- the program that the bytes of a file are the source of
abbrev pub read_source : ℕ → List ℕ → Option SourceProgram
read_source file bytes =
    unless_refused (card_refusals file bytes)
    (unless_refused (deck_refusals (cards file bytes))
    (unless_refused (type_refusals (file_statements file bytes))
    (option_map (λ (unit : SourceUnit). record { units = unit ∷ [] }) (read_unit (file_statements file bytes)))))
