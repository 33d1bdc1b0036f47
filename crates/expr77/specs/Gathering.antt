-- What is gathered of the lexemes of an expression: their symbols, and the lowest refused part so far.
use Rattle.std.specs.Prelude.{ℕ, List, [], ◌∷◌, ◌++◌, map, Option, Some, None, if◌then◌else◌}
use Rattle.tree77.specs.Expressions.{Symbol}
use Rattle.tree77.specs.Lexemes.{Lexeme, Part, symbol_of, parts_from, is_lower}

-- the lowest part so far, with further ones behind it
abbrev pub keep : Option Part → List Part → Option Part
keep kept [] = kept
keep None (p ∷ ps) = keep (Some p) ps
keep (Some k) (p ∷ ps) = keep (if is_lower p k then Some p else Some k) ps

pub record Gathered : Type 0 where
  pub symbols : List Symbol
  pub lowest : Option Part

-- further lexemes, where so many parentheses are open before them
abbrev pub with_lexemes : Gathered → ℕ → List Lexeme → Gathered
with_lexemes g depth lexemes = record { symbols = g.symbols ++ map symbol_of lexemes; lowest = keep g.lowest (parts_from depth lexemes) }

-- no lexeme yet
abbrev pub nothing_gathered : Option Part → Gathered
nothing_gathered lowest = record { symbols = []; lowest = lowest }
