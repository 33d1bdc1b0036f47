use Rattle.std.proofs.Common.{◌≡◌, ◌++◌, map, length, reverse}
use Rattle.expr_tree.specs.Plain.{expr_of, exprs_of}
use Rattle.order77.specs.Settling.{names_among}
use Rattle.order77.proofs.settling.names_among.Given as goal

-- the names in the expressions that are left, and those that were found, the last one first
abbrev pub invariant-loop-expr : goal.invariant-loop-expr
invariant-loop-expr l = names_among (exprs_of (map expr_of l.initial.exprs)) ≡ names_among (exprs_of (map expr_of l.exprs)) ++ reverse l.names.items

abbrev pub decreases-loop-expr : goal.decreases-loop-expr
decreases-loop-expr l = length l.exprs
