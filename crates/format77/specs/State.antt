-- A format as far as its lexemes have been read, as clauses see it.
use Rattle.std.specs.Prelude.{◌≡◌, ℕ, suc, Bool, not, ◌&&◌, ◌||◌, List, [], ◌∷◌, ◌++◌, length, codes, Option, Some, None, Result, Ok, Err, if◌then◌else◌}
use Rattle.std.specs.Option.{option_map}
use Rattle.text_base.specs.Formats.{FormatLexeme, FormatItems, opening, begins_item, ends_item, is_free_before, is_free_behind, are_separated, in_trees, refused_words}
use Rattle.text_base.specs.FormatPlain.{format_items}
use Rattle.format77.specs.Reading.{build_from, Outcome, accepted, refused, no_format, outcome_by}
use Rattle.format77.specs.Views.{lexeme_of, built_from}
use Rattle.format77.specs.declared.build_error.BuildError.{BuildError}
use Rattle.format77.specs.declared.build_error.BuildError.TheVariants as e
use Rattle.format77.specs.declared.format_read.FormatRead.{FormatRead}
use Rattle.format77.specs.declared.format_read.FormatRead.TheVariants as f
use Rattle.format77.specs.declared.lexeme.Lexeme.{Lexeme}
use Rattle.format77.specs.declared.progress.Progress.{Progress}
use Rattle.format77.specs.declared.refused_part.RefusedPart.{RefusedPart}
use Rattle.format77.specs.declared.refused_part.RefusedPart.TheVariants as p

-- what has been read
abbrev pub outcome_of : FormatRead → Outcome
outcome_of (f.Accepted items) = accepted (format_items items)
outcome_of (f.Refused word) = refused word.now
outcome_of f.NotSpelled = no_format

-- ---- refused parts

abbrev pub word_of : RefusedPart → List ℕ
word_of p.Edit = codes "EDIT"
word_of p.Depth = codes "DEPTH"

abbrev pub words_of : Option RefusedPart → List (List ℕ)
words_of None = []
words_of (Some part) = word_of part ∷ []

-- the first part counts
abbrev pub kept_words : Option RefusedPart → List (List ℕ) → List (List ℕ)
kept_words None words = words
kept_words (Some part) words = word_of part ∷ []

-- ---- commas

-- a lexeme may stand next, by whether an item ends with the one before it, and whether a comma behind that may be left out
abbrev pub may_by : Bool → Bool → FormatLexeme → Bool
may_by ends free j = if ends then not (begins_item j) || (free || is_free_before j) else begins_item j

abbrev pub separated_by : Bool → Bool → List FormatLexeme → Bool
separated_by ends free [] = ends
separated_by ends free (j ∷ js) = may_by ends free j && separated_by (ends_item j) (is_free_behind j) js

-- ---- the outcome

abbrev pub outcome_with : List (List ℕ) → Option FormatItems → Outcome
outcome_with words None = no_format
outcome_with words (Some items) = outcome_by items words

-- what becomes of lexemes behind those that were read
abbrev pub outcome_at : Progress → Option (List FormatLexeme) → Outcome
outcome_at s None = no_format
outcome_at s (Some ls) =
    if separated_by s.before.ends_item s.before.is_free ls then outcome_with (words_of s.refused ++ refused_words (suc (length s.builder.levels)) ls) (built_from s.builder (in_trees ls)) else no_format

-- what becomes of the lexemes behind the first parenthesis
abbrev pub outcome_start : Option (List FormatLexeme) → Outcome
outcome_start None = no_format
outcome_start (Some ls) = if are_separated (opening 1) ls then outcome_with (refused_words 1 ls) (build_from [] [] (in_trees ls)) else no_format

-- one lexeme more; want of memory says nothing
abbrev pub Steps : Progress → Lexeme → Result Progress BuildError → Type 0
Steps before lexeme (Ok after) = (lexemes : Option (List FormatLexeme)) → outcome_at before (option_map (λ is. lexeme_of lexeme ∷ is) lexemes) ≡ outcome_at after lexemes
Steps before lexeme (Err e.NotSpelled) = (lexemes : Option (List FormatLexeme)) → outcome_at before (option_map (λ is. lexeme_of lexeme ∷ is) lexemes) ≡ no_format
Steps before lexeme (Err e.Memory) = Unit {0}

-- the result is this outcome; want of memory says nothing
abbrev pub HasOutcome : Outcome → Result FormatRead BuildError → Type 0
HasOutcome outcome (Ok read) = outcome ≡ outcome_of read
HasOutcome outcome (Err e.NotSpelled) = outcome ≡ no_format
HasOutcome outcome (Err e.Memory) = Unit {0}

-- no lexeme is left
abbrev pub Ends : Progress → Result FormatRead BuildError → Type 0
Ends before result = HasOutcome (outcome_at before (Some [])) result
