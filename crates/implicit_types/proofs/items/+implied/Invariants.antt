use Rattle.std.proofs.Common.{◌≡◌, take}
use Rattle.tree77.specs.StatementPlain.{listed_items}
use Rattle.names77.specs.Views.{shown_known}
use Rattle.implicit_types.specs.PartFindings.{are_apart_listeds}
use Rattle.implicit_types.proofs.items.+implied.Given as goal

abbrev pub invariant-are_apart_listeds-loop-item : goal.invariant-are_apart_listeds-loop-item
invariant-are_apart_listeds-loop-item l = l.are_apart ≡ are_apart_listeds (shown_known l.known) (listed_items (take l.item-index l.items))
