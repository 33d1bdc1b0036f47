-- What clauses see of symbols and of trees made from them.
use Rattle.std.specs.Prelude.{◌≡◌, Option, Some, None, Result, Ok, Err}
use Rattle.text_base.specs.Trees as tree
use Rattle.expr_tree.specs.Plain.{expr_of, binary_of}
use Rattle.expr_tree.specs.declared.tree.Expr.{Expr}
use Rattle.tree77.specs.Expressions as grammar
use Rattle.group77.specs.declared.build_error.BuildError.{BuildError}
use Rattle.group77.specs.declared.build_error.BuildError.TheVariants as build_error
use Rattle.group77.specs.declared.symbol.Symbol.{Symbol}
use Rattle.group77.specs.declared.symbol.Symbol.TheVariants as symbols

abbrev pub grammar_symbol : Symbol → grammar.Symbol
grammar_symbol (symbols.Operand x) = grammar.operand (expr_of x)
grammar_symbol symbols.Alternate = grammar.alternate
grammar_symbol (symbols.Operator o) = grammar.operator (binary_of o)
grammar_symbol symbols.Not = grammar.not_sign
grammar_symbol symbols.Open = grammar.opening
grammar_symbol symbols.Close = grammar.closing
grammar_symbol symbols.Comma = grammar.comma
grammar_symbol symbols.Colon = grammar.colon

-- what is made, seen this way, and nothing where none is made; want of memory says nothing
abbrev pub GivesSeen : {A B : Type 0} → (A → B) → Result A BuildError → Option B → Type 0
GivesSeen view (Ok x) made = made ≡ Some (view x)
GivesSeen view (Err build_error.NotSpelled) made = made ≡ None
GivesSeen view (Err build_error.Memory) made = Unit {0}

-- a tree where one is made, and none where none is
abbrev pub Gives : Result Expr BuildError → Option tree.Expr → Type 0
Gives = GivesSeen expr_of
