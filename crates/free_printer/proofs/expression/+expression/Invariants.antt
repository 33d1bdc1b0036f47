use Rattle.std.proofs.Common.{◌≡◌, ◌++◌, take}
use Rattle.free_printer.proofs.Arguments.{arguments_text}
use Rattle.free_printer.proofs.expression.+expression.Given as goal

-- the arguments so far
abbrev pub invariant-write_arguments-loop-place : goal.invariant-write_arguments-loop-place
invariant-write_arguments-loop-place l = l.out ≡ l.fn.out ++ arguments_text (take l.place l.argument-items)
