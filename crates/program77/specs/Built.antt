-- Which statements are converted.
use Rattle.std.specs.Prelude.{◌≡◌, ℕ, List, Option, Some, None}
use Rattle.text_base.specs.Cards.{Card}
use Rattle.text_base.specs.Trees as t
use Rattle.text_base.specs.Trees.{Action}
use Rattle.tree77.specs.CardSpelling.{SpellsCard}
use Rattle.tree77.specs.Statements as stmt
use Rattle.tree77.specs.Statements.{Statement, Simple, header, simple, end}

-- a statement by itself, of those that are converted
pub data Built : Type 0 where
  program : List ℕ → Built
  action : Action → Built
  continue : Built
  end_of_unit : Built

abbrev pub built_simple : Simple → Option Built
built_simple (stmt.assign (t.name v) x) = Some (action (t.assign (t.name v) x))
built_simple stmt.continue = Some continue
built_simple (stmt.stop None) = Some (action t.stop)
built_simple _ = None

abbrev pub built_of : Statement → Option Built
built_of (header (stmt.program x)) = Some (program x)
built_of (simple a) = built_simple a
built_of end = Some end_of_unit
built_of _ = None

-- a card without a label spells the statement, which is converted
pub record SpellsBuilt (card : Card) (b : Built) : Type 0 where
  pub unlabelled : card.label ≡ 0
  pub statement : Statement
  pub spelled : SpellsCard card statement
  pub built : built_of statement ≡ Some b
