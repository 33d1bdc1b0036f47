use Rattle.std.proofs.Common.{[], Contains, sym, ap, ◌∙◌, subst}
use Rattle.std.specs.Prelude.{slice_get}
use Rattle.text_base.specs.Cards.{comments}
use Rattle.program77.specs.Plain.{source_unit}
use Rattle.program77.specs.Tree.{SourceProgram}
use Rattle.program77.specs.Layout.{layout_of}
use Rattle.program77.specs.Meaning.{run_main}
use Rattle.tree90.specs.Proper.{IsProper}
use Rattle.project_set.specs.Rewrite.{written}
use Rattle.tree90.specs.Meaning.{run90}
use Rattle.definition_laws.proofs.Converted.{source_faults, written_faults}
use Rattle.definition_laws.proofs.NameOrder.{first_of}
use Rattle.definition_laws.proofs.faults.converted_sources_fault_in_two_ways.Goals as goal

pub returns-clause-source : goal.returns-clause-source
returns-clause-source c bytes p n here kind is f =
    let unit = source_unit is.is_source.unit in
    let whole = is.is_source.whole in
    let within : Contains p.units unit = subst (λ (q : SourceProgram). Contains q.units unit) (sym whole) (first_of unit []) in
    source_faults (comments bytes) p unit (c.sources_are_typed.ensures bytes p is unit within).typed (subst (λ (q : SourceProgram). IsProper (written (comments bytes) q)) whole (c.written_is_proper.ensures bytes p is)) n here kind
    (sym (ap (λ (q : SourceProgram). run_main (layout_of p) (slice_get q.units 0) n) whole) ∙ f)

pub returns-clause-written : goal.returns-clause-written
returns-clause-written c bytes p start m here kind is f =
    let unit = source_unit is.is_source.unit in
    let whole = is.is_source.whole in
    written_faults (comments bytes) unit (subst (λ (q : SourceProgram). IsProper (written (comments bytes) q)) whole (c.written_is_proper.ensures bytes p is)) start m here kind
    (sym (ap (λ (q : SourceProgram). run90 start (written (comments bytes) q) m) whole) ∙ f)
