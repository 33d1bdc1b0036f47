use Rattle.std.proofs.Common.{◌≡◌, ◌++◌, take}
use Rattle.tree77.specs.StatementPlain.{listed_items}
use Rattle.order77.specs.Names.{listeds_uses}
use Rattle.order77.specs.NameSets.{lent}
use Rattle.order77.proofs.uses.+items.Given as goal

abbrev pub invariant-listeds_uses-loop-item : goal.invariant-listeds_uses-loop-item
invariant-listeds_uses-loop-item l = lent l.found ≡ lent l.fn.found ++ listeds_uses (listed_items (take l.item-index l.items))
