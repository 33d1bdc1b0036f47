use Rattle.std.proofs.Common.{◌≡◌, Err, subst}
use Rattle.unit77.specs.UnitViews.{unit_of}
use Rattle.implicit_types.specs.Views.{IsTyping}
use Rattle.implicit_types.specs.declared.entity.TypeError.TheVariants.{Refused}
use Rattle.project_set.proofs.ConversionLemmas.{refused_by}
use Rattle.project_set.proofs.conversion.typed_unit.Goals as goal

pub returns-in-Err-Refused-clause-refused : goal.returns-in-Err-Refused-clause-refused
returns-in-Err-Refused-clause-refused c =
    let is : c.in-Err-Refused.field-0 ≡ Refused c.in-Err-Refused.refusals = search in
    refused_by (unit_of c.args.unit.now) c.in-Err-Refused.refusals (subst (λ e. IsTyping c.args.unit.now (Err e)) is c.in-Err-Refused.ensures)
