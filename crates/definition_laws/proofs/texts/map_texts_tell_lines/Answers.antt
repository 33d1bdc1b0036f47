use Rattle.std.proofs.Common.{List, [], ◌∷◌, All, sym, ◌∙◌, subst}
use Rattle.std.proofs.lemmas.List.Folds.{list_all-map}
use Rattle.text_base.specs.Chars.{is_name}
use Rattle.text_base.specs.Cards.{Comment, comments}
use Rattle.program77.specs.Plain.{source_unit}
use Rattle.program77.specs.Tree.{SourceUnit, SourceProgram}
use Rattle.program77.specs.Typing.{variables}
use Rattle.tree90.specs.Tree.{integer_object}
use Rattle.tree90.specs.Proper.{declared_name, IsProper}
use Rattle.project_set.specs.MapText.{map_lines}
use Rattle.project_set.specs.Rewrite.{written}
use Rattle.definition_laws.specs.Texts.{IsWellNamed}
use Rattle.definition_laws.proofs.TextLemmas.{one_list, unit_named}
use Rattle.definition_laws.proofs.texts.map_texts_tell_lines.Goals as goal

pub returns-clause-lines : goal.returns-clause-lines
returns-clause-lines c = one_list

-- the names of a proper program
proper_named : (cs : List Comment) (u : SourceUnit) → IsProper (written cs (record { units = u ∷ [] })) → All IsWellNamed (map_lines (record { units = u ∷ [] }))
proper_named cs u proper =
    let unit = proper.writable.units.0 in
    unit_named u unit.named (sym (list_all-map (λ d. is_name (declared_name d)) integer_object (variables u)) ∙ unit.declared)

pub returns-clause-named : goal.returns-clause-named
returns-clause-named c bytes p is =
    subst (λ (q : SourceProgram). IsProper (written (comments bytes) q) → All IsWellNamed (map_lines q)) (sym is.is_source.whole) (proper_named (comments bytes) (source_unit is.is_source.unit)) (c.written_is_proper.ensures bytes p is)
