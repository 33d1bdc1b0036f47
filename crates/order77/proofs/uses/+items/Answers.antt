use Rattle.std.proofs.Common.{List}
use Rattle.tree77.specs.StatementPlain.{listed_of, listed_items}
use Rattle.tree77.specs.declared.statement.Listed77.{Listed77}
use Rattle.order77.specs.Names.{listed_uses, listeds_uses}
use Rattle.order77.proofs.UseLemmas.{listeds_more, grown}
use Rattle.order77.proofs.uses.+items.Goals as goal

pub listeds_uses-loop-item-preserved : goal.listeds_uses-loop-item-preserved
listeds_uses-loop-item-preserved t c =
    grown (λ (xs : List Listed77). listeds_uses (listed_items xs)) (λ (x : Listed77). listed_uses (listed_of x)) listeds_more
    c.args.items.now c.loop-item.item-index c.item-item.result _ _ _ c.item-item.is c.loop-item-test.true c.loop-item.invariant c.in_ok-listed_uses.ensures
