use Rattle.std.proofs.Common.{sym, ap, ◌∙◌}
use Rattle.std.specs.Prelude.{◌&&◌, ◌==◌}
use Rattle.tree77.specs.StatementPlain.{simple_of}
use Rattle.program77.specs.Built.{built_simple}
use Rattle.program77.specs.Plain.{is_step}
use Rattle.program77.proofs.Items.{converted_simple, converted_guarded, converted_block, converted_loop, labelled}
use Rattle.program77.proofs.unit.is_converted_item.Goals as goal

pub returns-then-item-eq0 : goal.returns-then-item-eq0
returns-then-item-eq0 c =
    c.is_step.ensures
    ∙ sym (converted_simple c.args.item.now c.in-Simple.statement c.in-Simple.is ∙ ap (λ n. (n == 0) && is_step (built_simple (simple_of c.in-Simple.statement))) c.if-item-eq0.true)

pub returns-else-item-eq0 : goal.returns-else-item-eq0
returns-else-item-eq0 c =
    labelled c.args.item.now.label (is_step (built_simple (simple_of c.in-Simple.statement))) c.if-item-eq0.false
    ∙ sym (converted_simple c.args.item.now c.in-Simple.statement c.in-Simple.is)

pub returns-in-Guarded : goal.returns-in-Guarded
returns-in-Guarded c = sym (converted_guarded c.args.item.now _ _ c.in-Guarded.is)

pub returns-in-If : goal.returns-in-If
returns-in-If c = sym (converted_block c.args.item.now _ _ c.in-If.is)

pub returns-in-Do : goal.returns-in-Do
returns-in-Do c = sym (converted_loop c.args.item.now _ _ c.in-Do.is)
