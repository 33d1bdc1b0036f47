use Rattle.std.proofs.Common.{◌≡◌, ℕ, ◌+◌, ◌-◌, ◌<◌, ◌≤◌, length, IsTrue}
use Rattle.tree90.specs.MadeNames.{is_taken, tried}
use Rattle.tree90.proofs.names.Names.first_free.Given as goal

-- all that was tried before is taken, so that there is room for one more number
abbrev pub invariant-loop-characters : goal.invariant-loop-characters
invariant-loop-characters l =
    (l.characters.items ≡ tried l.base l.number) × (l.number ≤ length l.self + 1)
    × ((n : ℕ) → n < l.number → IsTrue (is_taken l.self (tried l.base n)))

abbrev pub decreases-loop-characters : goal.decreases-loop-characters
decreases-loop-characters l = length l.self + 1 - l.number
