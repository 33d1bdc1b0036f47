use Rattle.std.proofs.Common.{◌≡◌, ◌++◌, codes, take}
use Rattle.tree90.specs.Printed.{doubled}
use Rattle.free_printer.proofs.expression.write_quoted.Given as goal

-- the apostrophe and the characters so far
abbrev pub invariant-loop-character : goal.invariant-loop-character
invariant-loop-character l = l.out ≡ l.fn.out ++ codes "'" ++ doubled (take l.character-index l.characters)
