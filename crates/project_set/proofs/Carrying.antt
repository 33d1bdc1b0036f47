-- What is written for a source does what the source does.
use Rattle.std.proofs.Common.{refl, ◌≡◌, ℕ, ◌≤◌, List, [], ◌∷◌, map, Some, sym, ap, subst}
use Rattle.std.proofs.lemmas.List.{append-nil}
use Rattle.text_base.specs.Cards.{Comment, comments}
use Rattle.text_base.specs.Runs.{Final, going, ended, fault}
use Rattle.program77.specs.Tree.{SourceUnit, SourceProgram}
use Rattle.program77.specs.Typing.{variables}
use Rattle.program77.specs.Plain.{source_unit}
use Rattle.program77.specs.Source.{IsSource}
use Rattle.program77.specs.Layout.{Layout}
use Rattle.program77.specs.Meaning.{Store, start77, run_main}
use Rattle.program77.specs.Meaning as flat
use Rattle.tree90.specs.Meaning.{Objects, declared_in, AreDeclaredAs, IsStart, run90}
use Rattle.tree90.specs.Meaning as nested
use Rattle.project_set.specs.MapText.{MapLine, map_lines, map_line_of}
use Rattle.project_set.specs.Match.{IsMap, Matches, DoesTheSame}
use Rattle.project_set.specs.Rewrite.{comments_from, written, written_unit}
use Rattle.project_set.proofs.Names.{Distinct}
use Rattle.project_set.proofs.Placing.{layout_at, one_unit, variables_of_one, layout_of_one}
use Rattle.project_set.proofs.Agreeing.{declarations, agrees_start}
use Rattle.project_set.proofs.Following.{Alike, follows_unit}
use Rattle.project_set.proofs.Mapping.{map_lines_at, is_map_at, carried_at}

module _ (cs : List Comment) (u : SourceUnit) (once : Distinct (variables u)) where
  abbrev layout : Layout
  layout = layout_at u.name (variables u)

  abbrev lines : List MapLine
  lines = map_lines_at u.name (variables u)

  lines_are : map_lines (one_unit u) ≡ lines
  lines_are = ap (map (map_line_of (u.name ∷ []))) (variables_of_one u)

  -- runs that are alike match
  matches : (x : Final Store) (y : Final Objects) → Alike u.name (variables u) x y → Matches layout lines x y
  matches (going w) (going w') a = carried_at u.name (variables u) once w w' a
  matches (going w) (ended w' c') a = absurd a
  matches (going w) (fault here' kind') a = absurd a
  matches (ended w c) (going w') a = absurd a
  matches (ended w c) (ended w' c') a = (carried_at u.name (variables u) once w w' a.0, a.1)
  matches (ended w c) (fault here' kind') a = absurd a
  matches (fault here kind) f a = tt

  declared_is : declared_in (written cs (one_unit u)) ≡ declarations u.name (variables u)
  declared_is = append-nil (declarations u.name (variables u))

  -- the written unit follows the source's
  unit_follows : (start : Objects) → IsStart (written cs (one_unit u)) start → (n : ℕ) → (m : ℕ) × (n ≤ m) × Matches layout lines (run_main layout (Some u) n) (nested.run_main start (Some (written_unit cs 0 u)) m)
  unit_follows start begins n =
      let agree = agrees_start u.name (variables u) start (subst (λ ds. AreDeclaredAs ds start) declared_is begins) in
      let f = (follows_unit u.name (variables u) flat.no_function nested.no_function (λ f values n w. refl) (comments_from cs 2) u.code 1 n (start77 layout) start agree).by in
      (f.0, f.1, matches _ _ f.2)

  one_does_the_same : DoesTheSame (one_unit u) (written cs (one_unit u)) (map_lines (one_unit u))
  one_does_the_same = record {
    is_map = subst (λ (l : Layout). IsMap l (written cs (one_unit u)) (map_lines (one_unit u))) (sym (layout_of_one u))
        (subst (IsMap layout (written cs (one_unit u))) (sym lines_are) (is_map_at u.name (variables u) once (written cs (one_unit u)) declared_is));
    follows = λ start begins n.
        let f = unit_follows start begins n in (
          f.0,
          f.1,
          subst (λ (l : Layout). Matches l (map_lines (one_unit u)) (run_main l (Some u) n) (run90 start (written cs (one_unit u)) f.0)) (sym (layout_of_one u))
              (subst (λ (ls : List MapLine). Matches layout ls (run_main layout (Some u) n) (run90 start (written cs (one_unit u)) f.0)) (sym lines_are) f.2),
        );
  }

pub does_the_same : (bytes : List ℕ) (p : SourceProgram) (source : IsSource 0 bytes p) → Distinct (variables (source_unit source.unit)) → DoesTheSame p (written (comments bytes) p) (map_lines p)
does_the_same bytes p source once = subst (λ (q : SourceProgram). DoesTheSame q (written (comments bytes) q) (map_lines q)) (sym source.whole) (one_does_the_same (comments bytes) (source_unit source.unit) once)
