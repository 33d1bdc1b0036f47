use Rattle.std.proofs.Common.{map, filter, ap, ◌∙◌}
use Rattle.text_base.specs.Cards.{cards}
use Rattle.order77.specs.ReadViews.{readings_of}
use Rattle.program77.specs.SourceReading.{reading_card}
use Rattle.program77.specs.Typing.{is_variable}
use Rattle.implicit_types.specs.Typing.{Entity}
use Rattle.implicit_types.specs.Views.{shown_entity}
use Rattle.project_set.proofs.CardCount.{few_readings}
use Rattle.project_set.proofs.ConversionLemmas.{is_read, refusals_are, refused_alike, converted, variables_named, unit_of_file}
use Rattle.project_set.proofs.conversion.read_source.Goals as goal

pub nest_units-requires-clause-room : goal.nest_units-requires-clause-room
nest_units-requires-clause-room c =
    few_readings c.args.bytes.now c.in_ok-parts.parts.statements.items
    (ap (map reading_card) c.in_ok-parts.ensures.statements ∙ c.sources_are_read.ensures.read_alike (cards 0 c.args.bytes.now)) c.in_ok-parts.ensures.accepted

pub returns-in_err-typed-clause-refused : goal.returns-in_err-typed-clause-refused
returns-in_err-typed-clause-refused c =
    let bytes = c.args.bytes.now in
    let parts = c.in_ok-parts.ensures in
    let read = is_read c.files_are_units.ensures.as_read c.sources_are_read.ensures.unit_read c.sources_are_read.ensures.text_read bytes (readings_of c.in_ok-parts.parts.statements.items) c.in_ok-units.units
    c.in-Some.unit parts.statements c.in_ok-units.ensures c.in-Some.ensures.whole c.in-Some.ensures.converted parts.accepted parts.statements_accepted parts.built in
    refused_alike bytes c.in_err-typed.field-0.0 c.from_residual-in_err-typed.result c.from_residual-in_err-typed.ensures (c.in_err-typed.ensures.refused bytes (refusals_are bytes c.in-Some.unit read))

pub variables-requires : goal.variables-requires
variables-requires c =
    let bytes = c.args.bytes.now in
    let parts = c.in_ok-parts.ensures in
    let read = is_read c.files_are_units.ensures.as_read c.sources_are_read.ensures.unit_read c.sources_are_read.ensures.text_read bytes (readings_of c.in_ok-parts.parts.statements.items) c.in_ok-units.units
    c.in-Some.unit parts.statements c.in_ok-units.ensures c.in-Some.ensures.whole c.in-Some.ensures.converted parts.accepted parts.statements_accepted parts.built in
    variables_named c.sources_are_typed.ensures c.sources_are_read.ensures.built_found bytes c.in-Some.unit (map shown_entity c.entities.result.now) read
    (converted c.sources_are_read.ensures.source_found bytes c.in-Some.unit read c.in_ok-typed.ensures.accepted) (ap (map shown_entity) c.entities.ensures ∙ c.in_ok-typed.ensures.entities)

pub returns-clause-found : goal.returns-clause-found
returns-clause-found c =
    let bytes = c.args.bytes.now in
    let parts = c.in_ok-parts.ensures in
    let read = is_read c.files_are_units.ensures.as_read c.sources_are_read.ensures.unit_read c.sources_are_read.ensures.text_read bytes (readings_of c.in_ok-parts.parts.statements.items) c.in_ok-units.units
    c.in-Some.unit parts.statements c.in_ok-units.ensures c.in-Some.ensures.whole c.in-Some.ensures.converted parts.accepted parts.statements_accepted parts.built in
    converted c.sources_are_read.ensures.source_found bytes c.in-Some.unit read c.in_ok-typed.ensures.accepted

pub returns-clause-named : goal.returns-clause-named
returns-clause-named c = c.in_ok-variables.ensures ∙ ap (λ es. map (λ (e : Entity). e.name) (filter is_variable es)) (ap (map shown_entity) c.entities.ensures ∙ c.in_ok-typed.ensures.entities)

pub returns-clause-counted : goal.returns-clause-counted
returns-clause-counted c =
    let bytes = c.args.bytes.now in
    let parts = c.in_ok-parts.ensures in
    let read = is_read c.files_are_units.ensures.as_read c.sources_are_read.ensures.unit_read c.sources_are_read.ensures.text_read bytes (readings_of c.in_ok-parts.parts.statements.items) c.in_ok-units.units
    c.in-Some.unit parts.statements c.in_ok-units.ensures c.in-Some.ensures.whole c.in-Some.ensures.converted parts.accepted parts.statements_accepted parts.built in
    (unit_of_file bytes c.in-Some.unit c.in_ok-parts.parts.comments read.unit parts.comments).counted

pub returns-clause-comments : goal.returns-clause-comments
returns-clause-comments c =
    let bytes = c.args.bytes.now in
    let parts = c.in_ok-parts.ensures in
    let read = is_read c.files_are_units.ensures.as_read c.sources_are_read.ensures.unit_read c.sources_are_read.ensures.text_read bytes (readings_of c.in_ok-parts.parts.statements.items) c.in_ok-units.units
    c.in-Some.unit parts.statements c.in_ok-units.ensures c.in-Some.ensures.whole c.in-Some.ensures.converted parts.accepted parts.statements_accepted parts.built in
    (unit_of_file bytes c.in-Some.unit c.in_ok-parts.parts.comments read.unit parts.comments).at
