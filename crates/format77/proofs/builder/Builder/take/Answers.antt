use Rattle.std.proofs.Common.{◌≡◌, ◌⊎◌, inl, inr, List, [], ◌∷◌, ◌++◌, map, reverse, refl, sym, ap, ◌∙◌}
use Rattle.text_base.specs.Formats.{FormatLexeme, slash, in_trees}
use Rattle.format77.specs.declared.lexeme.Lexeme.{Lexeme}
use Rattle.format77.specs.declared.lexeme.Lexeme.TheVariants as x
use Rattle.format77.specs.declared.builder.Level.{Level}
use Rattle.text_base.specs.declared.format.FormatItem.{FormatItem}
use Rattle.text_base.specs.declared.format.FormatItem.TheVariants as v
use Rattle.format77.specs.Views.{level_of, lexeme_of, built_from}
use Rattle.format77.proofs.BuilderSteps.{edit_put, end_put, opened, closed}
use Rattle.format77.proofs.builder.Builder.take.Goals as goal
use Rattle.format77.proofs.builder.Builder.take.Goals.{in-Edit+in_ok-push-in-Edit, in-Slash+in_ok-push-in-Slash, in-Comma, in-Opening+in_ok-push-in-Opening, in-Closing+in-Some+in_ok-push-in-Some}

sides : (levels : List Level) (items : List FormatItem) (levels' : List Level) (items' : List FormatItem) (rest : List FormatLexeme) → levels ≡ levels' → items ≡ items'
    → built_from (record { levels = levels; items = items }) (in_trees rest) ≡ built_from (record { levels = levels'; items = items' }) (in_trees rest)
sides levels items levels' items' rest e f = ap (λ ls. built_from (record { levels = ls; items = items }) (in_trees rest)) e ∙ ap (λ xs. built_from (record { levels = levels'; items = xs }) (in_trees rest)) f

as_slash : (l : Lexeme) (rest : List FormatLexeme) → (l ≡ x.Slash) ⊎ ((l ≡ x.Colon) ⊎ ((l ≡ x.Scale) ⊎ (l ≡ x.Other))) → in_trees (lexeme_of l ∷ rest) ≡ slash ∷ in_trees rest
as_slash l rest (inl e) = ap (λ m. in_trees (lexeme_of m ∷ rest)) e
as_slash l rest (inr (inl e)) = ap (λ m. in_trees (lexeme_of m ∷ rest)) e
as_slash l rest (inr (inr (inl e))) = ap (λ m. in_trees (lexeme_of m ∷ rest)) e
as_slash l rest (inr (inr (inr e))) = ap (λ m. in_trees (lexeme_of m ∷ rest)) e

pub returns-clause-taken : goal.returns-clause-taken
returns-clause-taken c =
    elim c.match-lexeme.branch [
      | in-Edit+in_ok-push-in-Edit w ↦ λ rest.
          ap (λ l. built_from c.args.self (in_trees (lexeme_of l ∷ rest))) w.in-Edit.is ∙ edit_put (reverse (map level_of c.args.self.levels)) c.args.self.items w.in-Edit.edit (in_trees rest)
          ∙ sides c.args.self.levels (c.args.self.items ++ v.Edit w.in-Edit.edit ∷ []) _ _ rest (sym w.levels-is) (sym (w.items-is ∙ w.in_ok-push-in-Edit.ensures.ok))
      | in-Slash+in_ok-push-in-Slash w ↦ λ rest.
          ap (built_from c.args.self) (as_slash c.args.lexeme rest w.in-Slash.is) ∙ end_put (reverse (map level_of c.args.self.levels)) c.args.self.items (in_trees rest)
          ∙ sides c.args.self.levels (c.args.self.items ++ v.RecordEnd ∷ []) _ _ rest (sym w.levels-is) (sym (w.items-is ∙ w.in_ok-push-in-Slash.ensures.ok))
      | in-Comma w ↦ λ rest.
          ap (λ l. built_from c.args.self (in_trees (lexeme_of l ∷ rest))) w.in-Comma.is ∙ sides c.args.self.levels c.args.self.items _ _ rest (sym w.levels-is) (sym w.items-is)
      | in-Opening+in_ok-push-in-Opening w ↦ λ rest.
          ap (λ l. built_from c.args.self (in_trees (lexeme_of l ∷ rest))) w.in-Opening.is
          ∙ opened c.args.self.levels c.args.self.items (record { count = w.in-Opening.count; before = c.args.self.items }) (in_trees rest) refl
          ∙ sides (c.args.self.levels ++ record { count = w.in-Opening.count; before = c.args.self.items } ∷ []) [] _ _ rest (sym (w.levels-is ∙ w.in_ok-push-in-Opening.ensures.ok)) (sym (w.items-is ∙ w.new-items.ensures))
      | in-Closing+in-Some+in_ok-push-in-Some w ↦ λ rest.
          ap (λ l. built_from c.args.self (in_trees (lexeme_of l ∷ rest))) w.in-Closing.is
          ∙ ap (λ ls. built_from (record { levels = ls; items = c.args.self.items }) (in_trees (lexeme_of x.Closing ∷ rest))) w.in-Some.ensures
          ∙ closed w.pop.new.self c.args.self.items w.in-Some.field-0 (in_trees rest)
          ∙ sides w.pop.new.self (w.in-Some.field-0.before ++ v.Group w.in-Some.field-0.count c.args.self.items ∷ []) _ _ rest (sym w.levels-is) (sym (w.items-is ∙ w.in_ok-push-in-Some.ensures.ok))
    ]
