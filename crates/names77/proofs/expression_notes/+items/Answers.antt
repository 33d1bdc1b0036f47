use Rattle.std.proofs.Common.{List}
use Rattle.tree77.specs.StatementPlain.{listed_of, listed_items}
use Rattle.tree77.specs.declared.statement.Listed77.{Listed77}
use Rattle.names77.specs.Notes.{listed_notes, listeds_notes}
use Rattle.names77.specs.Views.{shown_fact}
use Rattle.names77.proofs.NoteLemmas.{listeds_more, grown}
use Rattle.names77.proofs.expression_notes.+items.Goals as goal

pub listeds_notes-loop-item-preserved : goal.listeds_notes-loop-item-preserved
listeds_notes-loop-item-preserved t c =
    let f = shown_fact c.args.fact in
    grown (λ (xs : List Listed77). listeds_notes f (listed_items xs)) (λ (x : Listed77). listed_notes f (listed_of x)) (listeds_more f)
    c.args.items.now c.loop-item.item-index c.item-item.result _ _ _ c.item-item.is c.loop-item-test.true c.loop-item.invariant c.in_ok-listed_notes.ensures
