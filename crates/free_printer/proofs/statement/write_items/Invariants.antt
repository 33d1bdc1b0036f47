use Rattle.std.proofs.Common.{◌≡◌, ◌++◌, flat_map, take}
use Rattle.free_printer.specs.Statement.{item_text}
use Rattle.free_printer.proofs.statement.write_items.Given as goal

abbrev pub invariant-loop-item : goal.invariant-loop-item
invariant-loop-item l = l.out ≡ l.fn.out ++ flat_map (item_text l.level) (take l.item-index l.items)
