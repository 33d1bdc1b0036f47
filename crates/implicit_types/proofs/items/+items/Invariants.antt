use Rattle.std.proofs.Common.{◌≡◌, ◌++◌, take}
use Rattle.tree77.specs.StatementPlain.{listed_items}
use Rattle.names77.specs.Views.{shown_known}
use Rattle.implicit_types.specs.PartFindings.{listeds_findings}
use Rattle.implicit_types.specs.Views.{shown_findings}
use Rattle.implicit_types.proofs.items.+items.Given as goal

abbrev pub invariant-listeds_findings-loop-item : goal.invariant-listeds_findings-loop-item
invariant-listeds_findings-loop-item l =
    shown_findings l.findings ≡ shown_findings l.fn.findings ++ listeds_findings (shown_known l.known) l.item_use (listed_items (take l.item-index l.items))
