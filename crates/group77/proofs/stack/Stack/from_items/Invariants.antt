use Rattle.std.proofs.Common.{◌≡◌, ◌++◌, length}
use Rattle.group77.proofs.stack.Stack.from_items.Given as goal

-- what is left, and behind it what is on the stack, are all values
abbrev pub invariant-loop-last : goal.invariant-loop-last
invariant-loop-last g l = l.items ++ l.stack ≡ l.fn.items

abbrev pub decreases-loop-last : goal.decreases-loop-last
decreases-loop-last g l = length l.items
