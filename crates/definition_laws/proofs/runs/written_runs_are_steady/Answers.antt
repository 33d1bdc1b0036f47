use Rattle.std.proofs.Common.{ℕ, ◌+◌, List, [], ◌∷◌, pos, refl, sym, ap, ◌∙◌, subst}
use Rattle.std.specs.Prelude.{slice_get}
use Rattle.tree90.specs.Tree.{Declared, integer_object}
use Rattle.tree90.specs.Meaning.{integers, Objects, declared_in, AreDeclaredAs, run_main}
use Rattle.definition_laws.specs.Running.{IsOver, count_of}
use Rattle.definition_laws.proofs.Budgets.{written_one, written_begins, written_ends}
use Rattle.definition_laws.proofs.Stepping.{written_order}
use Rattle.definition_laws.proofs.runs.written_runs_are_steady.Goals as goal

pub returns-clause-one : goal.returns-clause-one
returns-clause-one c start p = written_one start (slice_get p.units 0)

pub returns-clause-begin : goal.returns-clause-begin
returns-clause-begin c start p main at = ap (λ o. run_main start o 0) at ∙ written_begins start main

pub returns-clause-end : goal.returns-clause-end
returns-clause-end c start p main at = subst (λ o. IsOver (run_main start o (count_of main.code + 1))) (sym at) (written_ends start main)

pub returns-clause-order : goal.returns-clause-order
returns-clause-order c start p main m w at e =
    ap (λ o. run_main start o (m + 1)) at ∙ written_order start main m w (sym (ap (λ o. run_main start o m) at) ∙ e)

starts : (ds : List (List ℕ × Declared)) → (os : Objects) × AreDeclaredAs ds os
starts [] = ([], tt)
starts ((home, integer_object x) ∷ ds) = let rest = starts ds in (record { home = home; name = x; cells = integers (pos 0 ∷ []) } ∷ rest.0, ((pos 0, refl), rest.1))

pub returns-clause-start : goal.returns-clause-start
returns-clause-start c p = starts (declared_in p)
