use Rattle.std.proofs.Common.{◌≡◌, ◌↔◌, ℕ, ◌<◌, List, Contains, Some, sym, subst}
use Rattle.std.specs.Prelude.{slice_get}
use Rattle.program77.specs.Typing.{code_variables}
use Rattle.definition_laws.specs.Storage.{first_place}
use Rattle.definition_laws.proofs.NameOrder.{seen, from_seen}
use Rattle.definition_laws.proofs.ObjectLemmas.{names_of}
use Rattle.definition_laws.proofs.StorageLemmas.{in_place}
use Rattle.definition_laws.proofs.storage.variables_are_names.Goals as goal

pub returns-clause-sources : goal.returns-clause-sources
returns-clause-sources c bytes p is u within = (c.sources_are_typed.ensures bytes p is u within).names

pub returns-clause-names : goal.returns-clause-names
returns-clause-names c p u x names within =
    subst (λ xs. Contains xs x ↔ Contains (code_variables u.code) x) (sym (names u within)) (from_seen (code_variables u.code) x, seen (code_variables u.code) x)

pub returns-clause-order : goal.returns-clause-order
returns-clause-order c p u i j x y names within =
    subst (λ (xs : List (List ℕ)). i < j → slice_get xs i ≡ Some x → slice_get xs j ≡ Some y → first_place (code_variables u.code) x < first_place (code_variables u.code) y) (sym (names u within))
    (in_place (code_variables u.code) i j x y)

pub returns-clause-statements : goal.returns-clause-statements
returns-clause-statements c u = names_of u.code
