use Rattle.std.proofs.Common.{◌≡◌, true, sym, ◌∙◌, subst}
use Rattle.text_base.specs.Chars.{is_name}
use Rattle.project_set.proofs.VariableLemmas.{one_named}
use Rattle.project_set.proofs.variables.variables.Goals as goal

pub new-requires : goal.new-requires
new-requires c =
    subst (λ x. is_name x ≡ true) (sym c.as_slice.ensures)
    (one_named c.args.entities.now c.loop-entity.entity-index c.entity-item.result c.entity-item.is c.loop-entity-test.true (sym c.is_variable.ensures ∙ c.if-is_variable.true) c.requires)
