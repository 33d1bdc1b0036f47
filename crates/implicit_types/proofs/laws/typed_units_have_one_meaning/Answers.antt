use Rattle.implicit_types.proofs.TypedUnits as law
use Rattle.implicit_types.proofs.laws.typed_units_have_one_meaning.Goals as goal

pub returns : goal.returns
returns c = law.typed_units c.roles_are_narrowed.ensures
