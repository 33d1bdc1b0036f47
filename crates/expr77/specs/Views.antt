-- What clauses see of lexemes, numbers, parts and places in an expression.
use Rattle.std.specs.Prelude.{ℕ, List, [], ◌∷◌, map, Option, Some, None}
use Rattle.std.specs.Option.{option_map}
use Rattle.expr_tree.specs.Plain.{binary_of}
use Rattle.tree77.specs.Lexemes as plain
use Rattle.scan77.specs.Token.{tokens_of}
use Rattle.group77.specs.Symbol.{grammar_symbol}
use Rattle.expr77.specs.LexemeReading as reading
use Rattle.expr77.specs.Gathering as gathering
use Rattle.expr77.specs.declared.gathering.Gathered.{Gathered}
use Rattle.expr77.specs.declared.gathering.Reading.{Reading}
use Rattle.expr77.specs.declared.lexeme.Lexeme.{Lexeme}
use Rattle.expr77.specs.declared.lexeme.Lexeme.TheVariants as lexeme
use Rattle.expr77.specs.declared.number.Number.{Number}
use Rattle.expr77.specs.declared.number.Number.TheVariants as number
use Rattle.expr77.specs.declared.part.Part.{Part}
use Rattle.expr77.specs.declared.lexeme_reading.Stand.{Stand}
use Rattle.expr77.specs.declared.lexeme_reading.Stand.TheVariants as stand

abbrev pub number_of : Number → reading.Number
number_of (number.Whole digits) = reading.whole digits.now
number_of number.Real = reading.real

abbrev pub lexeme_of : Lexeme → plain.Lexeme
lexeme_of (lexeme.Integer digits) = plain.integer digits.now
lexeme_of lexeme.Constant = plain.constant
lexeme_of (lexeme.Logical b) = plain.logical b
lexeme_of (lexeme.Characters text) = plain.characters text
lexeme_of (lexeme.Name word) = plain.name word
lexeme_of lexeme.Alternate = plain.alternate
lexeme_of (lexeme.Operator o) = plain.operator (binary_of o)
lexeme_of lexeme.Not = plain.not_sign
lexeme_of lexeme.Open = plain.opening
lexeme_of lexeme.Close = plain.closing
lexeme_of lexeme.Comma = plain.comma
lexeme_of lexeme.Colon = plain.colon

abbrev pub plain_part : Part → plain.Part
plain_part part = record { cause = part.cause; shown = part.shown.now }

-- no part or one, as a list
abbrev pub plain_parts : Option Part → List plain.Part
plain_parts None = []
plain_parts (Some part) = plain_part part ∷ []

abbrev pub stand_of : Stand → reading.Stand
stand_of stand.Argument = reading.at_argument
stand_of stand.Operand = reading.at_operand
stand_of stand.After = reading.after_operand

abbrev pub gathered_of : Gathered → gathering.Gathered
gathered_of g = record { symbols = map grammar_symbol g.symbols; lowest = option_map plain_part g.lowest }

-- what has been gathered, with the lexemes of the tokens that are left, in so many turns
abbrev pub gathered_in : ℕ → Reading → Option gathering.Gathered
gathered_in n r = option_map (gathering.with_lexemes (gathered_of r.gathered) r.depth) (reading.read_lexemes n (stand_of r.stand) (tokens_of r.rest.now))
