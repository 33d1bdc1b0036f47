-- What the answer of the reader says follows from the outcome of the tokens.
use Rattle.std.proofs.Common.{◌≡◌, List, Result, Ok, Err, subst}
use Rattle.text_base.specs.Pieces.{Piece}
use Rattle.text_base.specs.Trees as tree
use Rattle.text_base.specs.declared.refusal.Place.{Place}
use Rattle.expr_tree.specs.Plain.{expr_of}
use Rattle.expr_tree.specs.declared.tree.Expr.{Expr}
use Rattle.tree77.specs.Tokens.{Token, IsCut}
use Rattle.tree77.specs.Lexemes.{Part, SpellsExpression, IsRefusedExpression}
use Rattle.expr77.specs.declared.parse_error.ParseError.{ParseError}
use Rattle.expr77.specs.declared.parse_error.ParseError.TheVariants.{Refused, Memory}
use Rattle.expr77.specs.Outcome.{accepted, refused, outcome_of}
use Rattle.expr77.specs.Parsing.{IsRefusal, IsOutcome, Parses, IsTree, IsPart}

-- what the laws say of outcomes and of expressions
abbrev pub AcceptedIsSpelled : Type 0
AcceptedIsSpelled = (pieces : List Piece) (tokens : List Token) (x : tree.Expr) → IsCut pieces tokens → outcome_of tokens ≡ accepted x → SpellsExpression pieces x

abbrev pub RefusedIsRefused : Type 0
RefusedIsRefused = (pieces : List Piece) (tokens : List Token) (p : Part) → IsCut pieces tokens → outcome_of tokens ≡ refused p → IsRefusedExpression pieces p

abbrev pub OneSpelled : Type 0
OneSpelled = (pieces : List Piece) (x y : tree.Expr) → SpellsExpression pieces x → SpellsExpression pieces y → x ≡ y

abbrev pub OneRefused : Type 0
OneRefused = (pieces : List Piece) (p q : Part) → IsRefusedExpression pieces p → IsRefusedExpression pieces q → p ≡ q

abbrev pub AreApart : Type 0
AreApart = (pieces : List Piece) (x : tree.Expr) (p : Part) → SpellsExpression pieces x → IsRefusedExpression pieces p → ⊥

pub parsed : AcceptedIsSpelled → RefusedIsRefused → (place : Place) (tokens : List Token) (r : Result Expr ParseError) → IsOutcome place (outcome_of tokens) r → (pieces : List Piece) → IsCut pieces tokens → Parses place pieces r
parsed spelled refusals place tokens (Ok x) read pieces cut = spelled pieces tokens (expr_of x) cut read
parsed spelled refusals place tokens (Err (Refused rs)) read pieces cut = (read.0, read.1, refusals pieces tokens read.0 cut read.2)
parsed spelled refusals place tokens (Err Memory) read pieces cut = tt

pub parsed_tree : OneSpelled → AreApart → (place : Place) (r : Result Expr ParseError) (pieces : List Piece) (x : tree.Expr) → Parses place pieces r → SpellsExpression pieces x → IsTree x r
parsed_tree one apart place (Ok y) pieces x parse is = one pieces (expr_of y) x parse is
parsed_tree one apart place (Err (Refused rs)) pieces x parse is = apart pieces x parse.0 is parse.2
parsed_tree one apart place (Err Memory) pieces x parse is = tt

pub parsed_part : OneRefused → AreApart → (place : Place) (r : Result Expr ParseError) (pieces : List Piece) (p : Part) → Parses place pieces r → IsRefusedExpression pieces p → IsPart place p r
parsed_part one apart place (Ok y) pieces p parse is = apart pieces (expr_of y) p parse is
parsed_part one apart place (Err (Refused rs)) pieces p parse is = subst (IsRefusal place rs) (one pieces parse.0 p parse.2 is) parse.1
parsed_part one apart place (Err Memory) pieces p parse is = tt
