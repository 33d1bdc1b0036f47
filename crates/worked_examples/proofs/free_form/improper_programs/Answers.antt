use Rattle.std.proofs.Common.{◌≡◌, Bool, true, false, not, List, [], ◌∷◌, ◌&&◌, map, refl, sym, ◌∙◌}
use Rattle.std.specs.List.{list_all}
use Rattle.std.specs.Str.{bytes_eq}
use Rattle.tree90.specs.Tree.{FreeUnit, FreeProgram}
use Rattle.tree90.specs.Proper.{declared_name, are_distinct, kind_in, is_typed_code, code_functions, IsProper}
use Rattle.worked_examples.specs.FreeForm.{improper, IsImproper}
use Rattle.worked_examples.proofs.Rows.{each_given}
use Rattle.worked_examples.proofs.free_form.improper_programs.Goals as goal

-- what a proper program has at least: one unit, whose names are apart, whose statements have types, and whose functions don't have
-- its name
abbrev has_one : List FreeUnit → Bool
has_one [] = false
has_one (u ∷ []) = list_all (λ f. not (bytes_eq u.name f)) (code_functions u.code) && (are_distinct (u.name ∷ map declared_name u.declared) && is_typed_code (kind_in u.declared) u.code)
has_one (u ∷ v ∷ us) = false

of_one : (units : List FreeUnit) (u : FreeUnit) → units ≡ u ∷ [] → has_one (u ∷ []) ≡ true → has_one units ≡ true
of_one units u e h = rw e h

proper_has_one : (p : FreeProgram) → IsProper p → has_one p.units ≡ true
proper_has_one p proper = of_one p.units proper.unit proper.whole (rw (proper.local, proper.distinct, proper.typed) refl)

pub returns : goal.returns
returns c = each_given IsImproper (λ p. has_one p.units) false (λ p none proper. let e : false ≡ true = sym none ∙ proper_has_one p proper in cc) improper refl
