use Rattle.std.proofs.Common.{sym, ap, ◌∙◌}
use Rattle.program77.specs.Plain.{source_of}
use Rattle.project_set.specs.MapText.{lines_text}
use Rattle.project_set.proofs.MapLemmas.{map_of_unit}
use Rattle.project_set.proofs.conversion.written_texts.Goals as goal

pub returns-clause-map : goal.returns-clause-map
returns-clause-map c =
    c.map.view_is ∙ c.in_ok-map.ensures ∙ ap (λ x. lines_text x c.as_slice.result.now) c.unit_name.ensures ∙ ap (lines_text (source_of c.args.source.unit).name) (c.as_slice.ensures ∙ c.requires.named)
    ∙ sym (map_of_unit (source_of c.args.source.unit))
