use Rattle.std.proofs.Common.{◌≡◌, sym, ap, ◌∙◌, arith, length}
use Rattle.std.specs.Option.{option_map}
use Rattle.expr_tree.specs.Plain.{expr_of, bound_of}
use Rattle.tree90.specs.Printed.{expr_text, bound_text}
use Rattle.free_printer.specs.Room.{room_left}
use Rattle.free_printer.proofs.Arguments.{arguments_text, argument_size, substring_size}
use Rattle.free_printer.proofs.Rooms.{no_room, room_kept, room_passed, room_last, longer}
use Rattle.free_printer.proofs.room.+room.Goals as goal

pub room_behind-returns-in_ok-room-in-Substring-3 : goal.room_behind-returns-in_ok-room-in-Substring-3
room_behind-returns-in_ok-room-in-Substring-3 t c =
    let whole = substring_size c.args.expr.now c.in-Substring.variable c.in-Substring.from c.in-Substring.to c.in-Substring.is in
    let first = room_kept (length (expr_text (expr_of c.get.result.now))) c.args.room c.in_ok-room-in-Substring.room c.in_ok-room-in-Substring.ensures in
    let third = room_kept (length (bound_text (bound_of (option_map expr_of c.in-Substring.from)))) c.in_ok-room-in-Substring-2.room c.in_ok-room-in-Substring-3.room c.in_ok-room-in-Substring-3.ensures in
    let same : length (expr_text (expr_of c.get.result.now)) ≡ length (expr_text (expr_of c.in-Substring.variable)) = ap (λ x. length (expr_text (expr_of x))) c.get.ensures in
    c.room_behind_bound-in-Substring.ensures ∙ room_last _ _ c.args.room c.in_ok-room-in-Substring-3.room (omega (arith, first, third, same, c.in_ok-room-in-Substring-2.ensures)) ∙ ap (λ n. room_left n c.args.room) (sym whole)

pub room_behind_arguments-returns-in_err-left : goal.room_behind_arguments-returns-in_err-left
room_behind_arguments-returns-in_err-left t c =
    let size = argument_size c.as_slice-argument-items.result.now c.loop-place.place c.argument-item.result c.argument-item.is c.loop-place-test.true in
    let over = longer (length c.separator.result.now) c.loop-place.left c.in_err-left.ensures in
    let all = ap (λ xs. length (arguments_text xs)) c.as_slice-argument-items.ensures in
    c.from_residual.ensures ∙ sym (no_room _ c.args.room (omega (arith, size.within, over, all, ap length c.separator.ensures, c.loop-place.invariant)))

pub room_behind_arguments-returns-in_err-left-2 : goal.room_behind_arguments-returns-in_err-left-2
room_behind_arguments-returns-in_err-left-2 t c =
    let size = argument_size c.as_slice-argument-items.result.now c.loop-place.place c.argument-item.result c.argument-item.is c.loop-place-test.true in
    let over = room_passed (length (expr_text (expr_of c.argument-item.result))) c.in_ok-left.left c.in_err-left-2.ensures in
    let all = ap (λ xs. length (arguments_text xs)) c.as_slice-argument-items.ensures in
    let before = c.in_ok-left.ensures in
    c.from_residual-in_err-left-2.ensures ∙ sym (no_room _ c.args.room (omega (arith, size.within, over, all, ap length c.separator.ensures, before, c.loop-place.invariant)))

pub room_behind_arguments-loop-place-preserved : goal.room_behind_arguments-loop-place-preserved
room_behind_arguments-loop-place-preserved t c =
    let size = argument_size c.as_slice-argument-items.result.now c.loop-place.place c.argument-item.result c.argument-item.is c.loop-place-test.true in
    let kept = room_kept (length (expr_text (expr_of c.argument-item.result))) c.in_ok-left.left c.in_ok-left-2.left c.in_ok-left-2.ensures in
    let before = c.in_ok-left.ensures in
    omega (arith, size.more, kept, ap length c.separator.ensures, before, c.loop-place.invariant)
