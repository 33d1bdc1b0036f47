use Rattle.std.proofs.Common.{◌≡◌, [], map, length}
use Rattle.group77.specs.Building.{standing, build_from}
use Rattle.group77.specs.Symbol.{grammar_symbol}
use Rattle.group77.specs.BuilderViews.{state_of}
use Rattle.group77.proofs.builder.build_all.Given as goal

-- building from here with what is left is building all
abbrev pub invariant-loop-symbol : goal.invariant-loop-symbol
invariant-loop-symbol l = build_from (state_of l.builder) (map grammar_symbol l.left) ≡ build_from (standing [] []) (map grammar_symbol l.fn.symbols)

abbrev pub decreases-loop-symbol : goal.decreases-loop-symbol
decreases-loop-symbol l = length l.left
