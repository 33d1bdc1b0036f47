use Rattle.names77.specs.Views.{shown_known}
use Rattle.implicit_types.proofs.PartLemmas.{apart_grown}
use Rattle.implicit_types.proofs.items.+implied.Goals as goal

pub are_apart_listeds-loop-item-preserved : goal.are_apart_listeds-loop-item-preserved
are_apart_listeds-loop-item-preserved t c =
    apart_grown (shown_known c.args.known.now) c.args.items.now c.loop-item.item-index c.item-item.result _ _ c.item-item.is c.loop-item-test.true c.loop-item.invariant c.is_apart_listed-are_apart.ensures
