use Rattle.std.proofs.Common.{rules, ◌≡◌, ◌≢◌, [], map, refl, sym, ap, ◌∙◌}
use Rattle.unit77.specs.UnitViews.{unit_of}
use Rattle.names77.specs.Views.{shown_known}
use Rattle.implicit_types.specs.Typing.{entities_of}
use Rattle.implicit_types.specs.Views.{shown_refusal}
use Rattle.implicit_types.proofs.TypingLemmas.{parts_of, some_mapped}
use Rattle.implicit_types.proofs.typing.type_unit.Goals as goal

pub returns-then-not-is_empty : goal.returns-then-not-is_empty
returns-then-not-is_empty c =
    let some : c.in_ok-refusals.refusals ≢ [] = search rules in
    let parts = parts_of (unit_of c.args.unit.now) c.in_ok-text.text c.as_slice-lines.result.now (shown_known c.in_ok-known.known) (map shown_refusal c.in_ok-refusals.refusals)
    c.in_ok-text.ensures c.as_slice-lines.ensures c.in_ok-known.ensures c.in_ok-refusals.ensures in
    (some_mapped shown_refusal c.in_ok-refusals.refusals some, parts.1)

pub returns : goal.returns
returns c =
    let none : c.in_ok-refusals.refusals ≡ [] = search rules in
    let parts = parts_of (unit_of c.args.unit.now) c.in_ok-text.text c.as_slice-lines.result.now (shown_known c.in_ok-known.known) (map shown_refusal c.in_ok-refusals.refusals)
    c.in_ok-text.ensures c.as_slice-lines.ensures c.in_ok-known.ensures c.in_ok-refusals.ensures in
    (refl, (sym parts.1 ∙ ap (map shown_refusal) none, c.in_ok-entities.ensures ∙ ap entities_of parts.0))
