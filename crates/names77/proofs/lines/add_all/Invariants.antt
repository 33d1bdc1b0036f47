use Rattle.std.proofs.Common.{◌≡◌, ◌++◌, take}
use Rattle.names77.proofs.lines.add_all.Given as goal

abbrev pub invariant-loop-line : goal.invariant-loop-line
invariant-loop-line l = l.lines ≡ l.fn.lines ++ take l.line-index l.added
