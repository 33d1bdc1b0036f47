-- What clauses see of the building of a format's tree.
use Rattle.std.specs.Prelude.{◌≡◌, List, ◌∷◌, map, reverse, Option, Some, None, Result, Ok, Err}
use Rattle.text_base.specs.Formats as t
use Rattle.format77.specs.Reading as r
use Rattle.text_base.specs.FormatPlain.{edit_of, item_of, format_items}
use Rattle.text_base.specs.declared.format.FormatItem.{FormatItem}
use Rattle.format77.specs.declared.lexeme.Lexeme.{Lexeme}
use Rattle.format77.specs.declared.lexeme.Lexeme.TheVariants as v
use Rattle.format77.specs.declared.builder.Level.{Level}
use Rattle.format77.specs.declared.builder.Builder.{Builder}
use Rattle.format77.specs.declared.build_error.BuildError.{BuildError}
use Rattle.format77.specs.declared.build_error.BuildError.TheVariants as e

abbrev pub lexeme_of : Lexeme → t.FormatLexeme
lexeme_of (v.Edit d) = t.descriptor (edit_of d)
lexeme_of v.Slash = t.slash
lexeme_of (v.Opening n) = t.opening n
lexeme_of v.Closing = t.closing
lexeme_of v.Comma = t.comma
lexeme_of v.Colon = t.colon
lexeme_of v.Scale = t.scale
lexeme_of v.Other = t.other

abbrev pub level_of : Level → r.Level
level_of level = record { count = level.count; before = map item_of level.before }

-- what becomes of lexemes behind those that a builder took
abbrev pub built_from : Builder → List t.FormatLexeme → Option t.FormatItems
built_from b lexemes = r.build_from (reverse (map level_of b.levels)) (map item_of b.items) lexemes

-- the builder took a lexeme, or no tree has it here
abbrev pub Takes : Builder → Lexeme → Result Builder BuildError → Type 0
Takes before lexeme (Ok after) = (rest : List t.FormatLexeme) → built_from before (t.in_trees (lexeme_of lexeme ∷ rest)) ≡ built_from after (t.in_trees rest)
Takes before lexeme (Err e.NotSpelled) = (rest : List t.FormatLexeme) → built_from before (t.in_trees (lexeme_of lexeme ∷ rest)) ≡ None
Takes before lexeme (Err e.Memory) = Unit {0}

-- the items, where a tree is built; want of memory says nothing
abbrev pub Gives : Result (List FormatItem) BuildError → Option t.FormatItems → Type 0
Gives (Ok xs) built = built ≡ Some (format_items xs)
Gives (Err e.NotSpelled) built = built ≡ None
Gives (Err e.Memory) built = Unit {0}
