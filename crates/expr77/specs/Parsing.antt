-- What the answers of the readers of expressions say.
use Rattle.std.specs.Prelude.{◌≡◌, ◌++◌, ℕ, List, [], ◌∷◌, Option, Some, None, Result, Ok, Err}
use Rattle.text_base.specs.Pieces.{Piece}
use Rattle.text_base.specs.Trees as plain
use Rattle.text_base.specs.declared.refusal.Place.{Place}
use Rattle.text_base.specs.declared.refusal.Refusal.{Refusal}
use Rattle.expr_tree.specs.Plain.{expr_of}
use Rattle.expr_tree.specs.declared.tree.Expr.{Expr}
use Rattle.tree77.specs.Lexemes.{Lexeme, Part, parts_from, first_lowest, IsWideExpression, SpellsExpression, IsRefusedExpression}
use Rattle.expr77.specs.declared.parse_error.ParseError.{ParseError}
use Rattle.expr77.specs.declared.parse_error.ParseError.TheVariants.{Refused, Memory}
use Rattle.expr77.specs.Outcome.{Outcome, accepted, refused}

-- The lowest part of some parts is carried on: of which list the first was the lowest, the second is that of the list with
-- these behind it.
abbrev pub CarriesOn : Option Part → List Part → Option Part → Type 0
CarriesOn lowest parts next = (before : List Part) → lowest ≡ first_lowest before → next ≡ first_lowest (before ++ parts)

-- The pieces spell the expression, where so many parentheses are open before it, and the lowest part so far is carried on.
abbrev pub IsReadFrom : ℕ → Option Part → List Piece → plain.Expr → Option Part → Type 0
IsReadFrom depth lowest pieces x next = (lexemes : List Lexeme) × IsWideExpression pieces lexemes x × CarriesOn lowest (parts_from depth lexemes) next

-- no expression was read: the tokens are none, or memory is wanted
abbrev pub IsNotRead : {E : Type 0} → Result (Option Expr) E → Type 0
IsNotRead (Ok (Some x)) = ⊥
IsNotRead (Ok None) = Unit {0}
IsNotRead (Err e) = Unit {0}

-- one refusal, of this part
abbrev pub IsRefusal : Place → List Refusal → Part → Type 0
IsRefusal place refusals p = refusals ≡ record { place = place; cause = p.cause; name = p.shown } ∷ []

-- the answer is the outcome, or want of memory
abbrev pub IsOutcome : Place → Outcome → Result Expr ParseError → Type 0
IsOutcome place outcome (Ok x) = outcome ≡ accepted (expr_of x)
IsOutcome place outcome (Err (Refused refusals)) = (p : Part) × IsRefusal place refusals p × (outcome ≡ refused p)
IsOutcome place outcome (Err Memory) = Unit {0}

-- The answer has the expression that the pieces of the tokens spell, or the refusal of them; want of memory says nothing.
abbrev pub Parses : Place → List Piece → Result Expr ParseError → Type 0
Parses place pieces (Ok x) = SpellsExpression pieces (expr_of x)
Parses place pieces (Err (Refused refusals)) = (p : Part) × IsRefusal place refusals p × IsRefusedExpression pieces p
Parses place pieces (Err Memory) = Unit {0}

-- the answer is this expression, or want of memory
abbrev pub IsTree : plain.Expr → Result Expr ParseError → Type 0
IsTree y (Ok x) = expr_of x ≡ y
IsTree y (Err (Refused refusals)) = ⊥
IsTree y (Err Memory) = Unit {0}

-- the answer is the refusal of this part, or want of memory
abbrev pub IsPart : Place → Part → Result Expr ParseError → Type 0
IsPart place p (Ok x) = ⊥
IsPart place p (Err (Refused refusals)) = IsRefusal place refusals p
IsPart place p (Err Memory) = Unit {0}
