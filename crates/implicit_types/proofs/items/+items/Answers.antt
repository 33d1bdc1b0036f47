use Rattle.std.proofs.Common.{List}
use Rattle.tree77.specs.StatementPlain.{listed_of, listed_items}
use Rattle.tree77.specs.declared.statement.Listed77.{Listed77}
use Rattle.names77.specs.Views.{shown_known}
use Rattle.implicit_types.specs.PartFindings.{listed_findings, listeds_findings}
use Rattle.implicit_types.proofs.PartLemmas.{listeds_more, grown}
use Rattle.implicit_types.proofs.items.+items.Goals as goal

pub listeds_findings-loop-item-preserved : goal.listeds_findings-loop-item-preserved
listeds_findings-loop-item-preserved t c =
    grown (λ (xs : List Listed77). listeds_findings (shown_known c.args.known.now) c.args.item_use (listed_items xs)) (λ (x : Listed77). listed_findings (shown_known c.args.known.now) c.args.item_use (listed_of x))
    (listeds_more (shown_known c.args.known.now) c.args.item_use)
    c.args.items.now c.loop-item.item-index c.item-item.result _ _ _ c.item-item.is c.loop-item-test.true c.loop-item.invariant c.in_ok-listed_findings.ensures
