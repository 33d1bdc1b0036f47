use Rattle.std.proofs.Common.{◌≡◌, ◌+◌, ◌-◌, ◌*◌, [], ◌∷◌, map}
use Rattle.tree77.specs.ListForms.{items_and_range, item}
use Rattle.tree77.specs.StatementPlain.{listed_of}
use Rattle.forms77.specs.Leaf.{leaf_form, behind_items}
use Rattle.forms77.specs.Reading.{read}
use Rattle.forms77.proofs.listed.+items.Given as goal

-- an item calls by one less, the others by the same
abbrev pub decreases-item : goal.decreases-item
decreases-item l = 3 * l.room

abbrev pub decreases-implied : goal.decreases-implied
decreases-implied l = 3 * l.room + 2

abbrev pub decreases-items_behind : goal.decreases-items_behind
decreases-items_behind l = 3 * l.room + 1

-- what is read of what is left, behind what has been read, is what is read of all
abbrev pub invariant-items_behind-loop : goal.invariant-items_behind-loop
invariant-items_behind-loop l =
    behind_items (map listed_of l.items) (read (items_and_range (item (leaf_form l.leaf) l.room) (l.room - l.counter)) l.feed)
    ≡ behind_items (listed_of l.fn.first ∷ []) (read (items_and_range (item (leaf_form l.leaf) l.room) l.room) l.fn.feed)
