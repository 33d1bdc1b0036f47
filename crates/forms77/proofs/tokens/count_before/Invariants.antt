use Rattle.std.proofs.Common.{◌≡◌, ◌+◌, ◌≤◌, drop}
use Rattle.std.specs.Option.{option_map}
use Rattle.scan77.specs.Token.{tokens_of}
use Rattle.forms77.specs.Reading.{count_before}
use Rattle.forms77.proofs.tokens.count_before.Given as goal

-- those before and those that are still to come are all
abbrev pub invariant-loop-token : goal.invariant-loop-token
invariant-loop-token l =
    (option_map (λ k. l.before + k) (count_before l.fn.marks l.open_ (tokens_of (drop l.token-index l.tokens))) ≡ count_before l.fn.marks 0 (tokens_of l.tokens)) × (l.open_ ≤ l.token-index) × (l.before ≤ l.token-index)
