-- One lexeme more, as the state of the reading shows it.
use Rattle.std.proofs.Common.{◌≡◌, ℕ, suc, Bool, false, ◌&&◌, List, [], ◌∷◌, ◌++◌, length, Option, Some, None, Err, refl, sym, ap, ◌∙◌}
use Rattle.std.specs.Prelude.{if◌then◌else◌}
use Rattle.std.specs.Option.{option_map}
use Rattle.text_base.specs.Formats.{FormatItems, FormatLexeme, opening, ends_item, is_free_behind, may_follow, are_separated, in_trees, refused_words}
use Rattle.format77.specs.Reading.{build_from, Outcome, no_format}
use Rattle.format77.specs.Views.{lexeme_of, built_from}
use Rattle.format77.specs.State.{words_of, separated_by, outcome_with, outcome_at, outcome_start, Steps, HasOutcome}
use Rattle.format77.specs.declared.build_error.BuildError.{BuildError}
use Rattle.format77.specs.declared.build_error.BuildError.TheVariants.{NotSpelled, Memory}
use Rattle.format77.specs.declared.lexeme.Lexeme.{Lexeme}
use Rattle.format77.specs.declared.progress.Progress.{Progress}

separated_same : (i : FormatLexeme) (ls : List FormatLexeme) → separated_by (ends_item i) (is_free_behind i) ls ≡ are_separated i ls
separated_same i [] = refl
separated_same i (j ∷ js) = ap (λ b. may_follow i j && b) (separated_same j js)

-- the outcome, by whether the lexemes are separated, the refused words and the tree
abbrev outcome_if : Bool → List (List ℕ) → Option FormatItems → Outcome
outcome_if b words tree = if b then outcome_with words tree else no_format

-- ---- the beginning

pub start_is : (s : Progress) → s.before.ends_item ≡ false → s.before.is_free ≡ false → words_of s.refused ≡ [] → ((rest : List FormatLexeme) → built_from s.builder rest ≡ build_from [] [] rest) → s.builder.levels ≡ []
    → (lexemes : Option (List FormatLexeme)) → outcome_at s lexemes ≡ outcome_start lexemes
start_is s ends free words built none None = refl
start_is s ends free words built none (Some ls) =
    let W = words_of s.refused ++ refused_words (suc (length s.builder.levels)) ls in
    let T = built_from s.builder (in_trees ls) in
    ap (λ e. outcome_if (separated_by e s.before.is_free ls) W T) ends ∙ ap (λ f. outcome_if (separated_by false f ls) W T) free
    ∙ ap (λ b. outcome_if b W T) (separated_same (opening 1) ls) ∙ ap (λ o. outcome_if (are_separated (opening 1) ls) W o) (built (in_trees ls))
    ∙ ap (λ ws. outcome_if (are_separated (opening 1) ls) (ws ++ refused_words (suc (length s.builder.levels)) ls) (build_from [] [] (in_trees ls))) words
    ∙ ap (λ n. outcome_if (are_separated (opening 1) ls) (refused_words (suc n) ls) (build_from [] [] (in_trees ls))) (ap length none)

-- where a step fails, the whole does
pub fails : (p : Progress) (l : Lexeme) (e : BuildError) (lexemes : Option (List FormatLexeme)) (o : Outcome) → Steps p l (Err e) → outcome_at p (option_map (λ is. lexeme_of l ∷ is) lexemes) ≡ o → HasOutcome o (Err e)
fails p l NotSpelled lexemes o steps is = sym is ∙ steps lexemes
fails p l Memory lexemes o steps is = tt
