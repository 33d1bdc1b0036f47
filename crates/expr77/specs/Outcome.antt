-- What the reading of tokens as an expression gives.
use Rattle.std.specs.Prelude.{ℕ, List, map, take, flat_map, Option, Some, None}
use Rattle.std.specs.Option.{option_map, option_and_then}
use Rattle.text_base.specs.Trees.{Expr}
use Rattle.text_base.specs.declared.limits.TheConstants.{MOST_SHOWN}
use Rattle.text_base.specs.declared.refusal.Cause.TheVariants.{NotAStatement}
use Rattle.tree77.specs.Tokens.{Token}
use Rattle.tree77.specs.Lexemes.{Lexeme, Part, symbol_of, parts_from}
use Rattle.group77.specs.Building.{build}
use Rattle.expr77.specs.Gathering.{keep}
use Rattle.expr77.specs.LexemeReading.{lexemes_of}

-- the tree, or the part for which the tokens are refused
pub data Outcome : Type 0 where
  accepted : Expr → Outcome
  refused : Part → Outcome

-- the tree of some lexemes, and the lowest part of them and of what was before them
abbrev pub tree_and_lowest : ℕ → Option Part → List Lexeme → Option (Expr × Option Part)
tree_and_lowest depth lowest lexemes = option_map (λ x. (x, keep lowest (parts_from depth lexemes))) (build (map symbol_of lexemes))

-- the expression of some tokens, where so many parentheses are open before them, and this part is the lowest so far
abbrev pub expression_of : ℕ → Option Part → List Token → Option (Expr × Option Part)
expression_of depth lowest tokens = option_and_then (tree_and_lowest depth lowest) (lexemes_of tokens)

-- the tree, unless the expression or a part of it is refused
abbrev pub outcome_from : List Token → Option (Expr × Option Part) → Outcome
outcome_from tokens None = refused (record { cause = NotAStatement; shown = take MOST_SHOWN (flat_map (λ t. t.text) tokens) })
outcome_from tokens (Some (x, None)) = accepted x
outcome_from tokens (Some (x, Some p)) = refused p

-- what some tokens give as a whole expression
abbrev pub outcome_of : List Token → Outcome
outcome_of tokens = outcome_from tokens (expression_of 0 None tokens)
