use Rattle.std.proofs.Common.{ℕ, ◌≡◌, ◌+◌, ◌-◌, max}
use Rattle.expr_tree.specs.Plain.{expr_of}
use Rattle.group77.specs.Grouping.{read_more, read_chain}
use Rattle.group77.specs.Groups.{symbols_left, reader_of, test_of}
use Rattle.group77.specs.declared.group.Rule.{Rule}
use Rattle.group77.specs.declared.group.Rule.TheVariants as rule
use Rattle.group77.proofs.group.+rule.Given as goal

-- each rule reads by rules that bind closer
abbrev rank : Rule → ℕ
rank rule.Factor = 0
rank rule.Term = 2
rank rule.Signed = 4
rank rule.Sum = 6
rank rule.Concatenation = 8
rank rule.Relation = 10
rank rule.Negation = 12
rank rule.Conjunction = 14
rank rule.Disjunction = 16
rank rule.Equivalence = 18

abbrev pub decreases-read : goal.decreases-read
decreases-read l = rank l.rule

abbrev pub decreases-chain : goal.decreases-chain
decreases-chain l = max (rank l.first) (rank l.next) + 1

abbrev pub decreases-signed : goal.decreases-signed
decreases-signed l = 3

abbrev pub decreases-relation : goal.decreases-relation
decreases-relation l = 9

abbrev pub decreases-negation : goal.decreases-negation
decreases-negation l = 11

-- the reading that is left from here is the reading of all
abbrev pub invariant-chain-loop : goal.invariant-chain-loop
invariant-chain-loop l =
    read_more (test_of l.sort) (reader_of l.next) (l.end - l.counter) (expr_of l.grouped) (symbols_left l.feed)
    ≡ read_chain (test_of l.sort) (reader_of l.fn.first) (reader_of l.next) (symbols_left l.fn.feed)
