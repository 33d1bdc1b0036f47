use Rattle.std.proofs.Common.{◌≡◌, ◌+◌, length, take}
use Rattle.free_printer.proofs.Arguments.{arguments_text}
use Rattle.free_printer.proofs.room.+room.Given as goal

-- the arguments so far took what isn't left
abbrev pub invariant-room_behind_arguments-loop-place : goal.invariant-room_behind_arguments-loop-place
invariant-room_behind_arguments-loop-place l = l.left + length (arguments_text (take l.place l.argument-items)) ≡ l.fn.room
