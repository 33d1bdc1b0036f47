use Rattle.std.proofs.Common.{◌≡◌, map, ◌-◌, [], ◌∷◌}
use Rattle.forms77.specs.Reading.{read_repeated}
use Rattle.forms77.specs.Words.{read_behind, read_list}
use Rattle.forms77.proofs.ListSteps.{in_front}
use Rattle.forms77.proofs.rule.list.Given as goal

-- what has been read, in front of what is read of what is left, is what is read of all
abbrev pub invariant-loop : goal.invariant-loop
invariant-loop g l =
    in_front (map g.R.Rule.plain l.items) (read_repeated (44 ∷ []) (read_behind 44 (g.R.Rule.reader l.rule)) (l.turns - l.counter) l.feed) ≡ read_list (g.R.Rule.reader l.rule) l.fn.feed
