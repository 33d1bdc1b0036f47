use Rattle.std.proofs.Common.{◌≡◌, ◌++◌, map, flat_map, take}
use Rattle.tree90.specs.Plain.{stmt_of}
use Rattle.tree90.specs.Printed.{stmt_text}
use Rattle.free_printer.proofs.statement.write_stmts.Given as goal

abbrev pub invariant-loop-stmt : goal.invariant-loop-stmt
invariant-loop-stmt l = l.out ≡ l.fn.out ++ flat_map (stmt_text l.level) (map stmt_of (take l.stmt-index l.stmts))
