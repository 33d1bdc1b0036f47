use Rattle.std.proofs.Common.{◌≡◌, ◌++◌, map, flat_map, take}
use Rattle.unit77.specs.Tree.{flat}
use Rattle.unit77.specs.Views.{items_of, arm_of, parts_from}
use Rattle.names77.specs.Views.{shown_lines}
use Rattle.names77.proofs.NestedLemmas.{part_lines}
use Rattle.names77.proofs.lines.+nested.Given as goal

abbrev pub invariant-add_items-loop-item : goal.invariant-add_items-loop-item
invariant-add_items-loop-item l = shown_lines l.lines ≡ shown_lines l.fn.lines ++ flat (items_of (take l.item-index l.items))

abbrev pub invariant-add_arms-loop-index : goal.invariant-add_arms-loop-index
invariant-add_arms-loop-index l =
    shown_lines l.lines ≡ shown_lines l.fn.lines ++ flat_map part_lines (parts_from l.at.number l.at.label l.at.place (map arm_of (take l.index l.arms)))
