-- What is refused of a file.
use Rattle.std.specs.Prelude.{ℕ, ◌+◌, Bool, true, false, not, ◌&&◌, ◌||◌, nat_le, List, [], ◌∷◌, length, replicate, take, map, filter, Option, Some, None}
use Rattle.std.specs.Option.{option_and_then}
use Rattle.text_base.specs.Cards.{Card, cards}
use Rattle.text_base.specs.Kept.{read_characters}
use Rattle.text_base.specs.LineRefusals.{files_refusals}
use Rattle.text_base.specs.ExpressionKinds.{are_same}
use Rattle.text_base.specs.Operations.{outcome_kind}
use Rattle.text_base.specs.Operators.{unary_op, binary_op, intrinsic}
use Rattle.text_base.specs.Refusing.{not_built}
use Rattle.text_base.specs.Trees.{UnaryOp, BinaryOp, Expr, int, bool, text, name, call, substring, unary, binary, paren, Exprs, none, more, Action, assign, stop}
use Rattle.text_base.specs.Values.{integers}
use Rattle.text_base.specs.declared.limits.TheConstants.{LONGEST_WRITTEN, MOST_SHOWN}
use Rattle.text_base.specs.declared.refusal.Refusal.{Refusal}
use Rattle.text_base.specs.declared.refusal.Cause.TheVariants.{NotBuilt}
use Rattle.implicit_types.specs.Typing.{Refused}
use Rattle.program77.specs.Tree.{SourceUnit}
use Rattle.program77.specs.Built.{Built, program, action, continue, end_of_unit}
use Rattle.program77.specs.SourceReading.{ReadCard, read_card, read_of, read_unit, type_refusals}
use Rattle.parse77.specs.Statement.{deck_refusals}
use Rattle.tree90.specs.Tree.{simple}
use Rattle.tree90.specs.Printed.{stmt_text}

-- ---- one statement

-- an intrinsic function that gives an integer of so many integers
abbrev pub gives_integer_of : List ℕ → ℕ → Bool
gives_integer_of f count = are_same (option_and_then (λ o. outcome_kind o (replicate count integers)) (intrinsic f)) (Some integers)

-- an intrinsic function that gives an integer, of one integer or of two
abbrev pub is_integer_function : List ℕ → Bool
is_integer_function f = gives_integer_of f 1 || gives_integer_of f 2

-- an operator that gives an integer, of integers
abbrev pub is_sign : UnaryOp → Bool
is_sign op = are_same (outcome_kind (unary_op op) (integers ∷ [])) (Some integers)

abbrev pub is_arithmetic : BinaryOp → Bool
is_arithmetic op = are_same (outcome_kind (binary_op op) (integers ∷ integers ∷ [])) (Some integers)

-- The expressions that are converted: integer constants and names, operators and intrinsic functions that give integers of
-- integers, and parentheses. Whether names and arguments are what they must be is asked of a whole unit.
abbrev mutual
  pub is_built : Expr → Bool
  is_built (int v) = true
  is_built (name x) = true
  is_built (call f xs) = is_integer_function f && are_built xs
  is_built (unary op a) = is_sign op && is_built a
  is_built (binary op a b) = is_arithmetic op && (is_built a && is_built b)
  is_built (paren a) = is_built a
  is_built (bool b) = false
  is_built (text t) = false
  is_built (substring a from to) = false

  pub are_built : Exprs → Bool
  are_built none = true
  are_built (more a rest) = is_built a && are_built rest

-- what is assigned to is a name, and the expression is converted
abbrev pub is_built_action : Action → Bool
is_built_action (assign (name x) e) = is_built e
is_built_action (assign d e) = false
is_built_action stop = true

-- the line that is written for the statement has at most 132 characters, and LF
abbrev pub is_short : Action → Bool
is_short a = nat_le (length (stmt_text 1 (simple a))) (LONGEST_WRITTEN + 1)

-- what can be converted: the expression of a statement is such a one, and its line fits
abbrev pub is_built_statement : Built → Bool
is_built_statement (program x) = true
is_built_statement (action a) = is_built_action a && is_short a
is_built_statement continue = true
is_built_statement end_of_unit = true

-- a statement that was read, and can be converted
abbrev pub is_built_as : Option Built → Bool
is_built_as None = false
is_built_as (Some s) = is_built_statement s

abbrev pub is_built_card : Card → Bool
is_built_card card = is_built_as (read_card card)

-- the refusal of a statement that isn't converted yet; its first 12 characters are named
abbrev pub not_built_at : Card → Refusal
not_built_at card = record { place = card.place; cause = NotBuilt; name = take MOST_SHOWN (read_characters card.text card.kept) }

-- ---- all statements

-- the refusals of the statements that aren't converted yet
abbrev pub unbuilt_refusals : List Card → List Refusal
unbuilt_refusals cards = map not_built_at (filter (λ card. not (is_built_card card)) cards)

-- a refusal of names and types
abbrev pub refusal_of : Refused → Refusal
refusal_of r = record { place = r.place; cause = r.cause; name = r.name }

-- the refusal of a file whose statements aren't one main program, and where they are, those of its names and their types
abbrev pub unit_refusals : ℕ → List ReadCard → Option SourceUnit → List Refusal
unit_refusals file reads None = not_built file ∷ []
unit_refusals file reads (Some unit) = map refusal_of (type_refusals reads)

-- those of the first phase that has any
abbrev pub first_of : List Refusal → List Refusal → List Refusal
first_of [] later = later
first_of (first ∷ rest) later = first ∷ rest

-- what is refused of a file as one unit
abbrev pub program_refusals : List ReadCard → List Refusal
program_refusals reads = unit_refusals 0 reads (read_unit reads)

-- what is refused of the statements of a file: of them as units; where there is nothing, of those that aren't converted yet; and
-- where there is nothing, of them as one main program, and of its names and their types
abbrev pub source_refusals : List Card → List Refusal
source_refusals cards = first_of (deck_refusals cards) (first_of (unbuilt_refusals cards) (program_refusals (map read_of cards)))

-- What is refused of a file: of its size and its lines; and where there is nothing, of its statements.
abbrev pub refusals : List ℕ → List Refusal
refusals bytes = first_of (files_refusals 0 0 (bytes ∷ [])) (source_refusals (cards 0 bytes))
