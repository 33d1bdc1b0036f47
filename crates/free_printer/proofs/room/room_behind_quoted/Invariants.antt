use Rattle.std.proofs.Common.{◌≡◌, ◌+◌, length, take}
use Rattle.tree90.specs.Printed.{doubled}
use Rattle.free_printer.proofs.room.room_behind_quoted.Given as goal

-- the apostrophes and the characters so far took what isn't left
abbrev pub invariant-loop-character : goal.invariant-loop-character
invariant-loop-character l = l.left + 2 + length (doubled (take l.character-index l.characters)) ≡ l.fn.room
