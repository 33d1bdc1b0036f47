use Rattle.std.proofs.Common.{◌≡◌, map, ◌-◌}
use Rattle.forms77.specs.Reading.{read_repeated, read_all}
use Rattle.forms77.proofs.ListSteps.{in_front}
use Rattle.forms77.proofs.rule.many.Given as goal

-- what has been read, in front of what is read of what is left, is what is read of all
abbrev pub invariant-loop : goal.invariant-loop
invariant-loop g l =
    in_front (map g.R.Rule.plain l.items) (read_repeated l.fn.sorts (g.R.Rule.reader l.rule) (l.turns - l.counter) l.feed) ≡ read_all l.fn.sorts (g.R.Rule.reader l.rule) l.fn.feed
