use Rattle.std.proofs.Common.{◌∙◌, ◌∷◌, [], sym, arith, length-append}
use Rattle.tree90.specs.Printed.{doubled}
use Rattle.free_printer.proofs.Rooms.{no_room, longer, doubled_grow}
use Rattle.free_printer.proofs.room.room_behind_quoted.Goals as goal

pub returns-in_err-left-2 : goal.returns-in_err-left-2
returns-in_err-left-2 c =
    let over = longer c.width.result c.loop-character.left c.in_err-left-2.ensures in
    let grow = doubled_grow c.args.characters.now c.loop-character.character-index c.loop-character-test.true in
    let whole = length-append (doubled c.args.characters.now) (39 ∷ []) in
    c.from_residual-in_err-left-2.ensures ∙ sym (no_room _ c.args.room (omega (arith, over, grow, whole, c.width.ensures, c.loop-character.invariant)))
