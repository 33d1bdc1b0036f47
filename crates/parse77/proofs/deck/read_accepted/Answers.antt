use Rattle.std.proofs.Common.{length, ap, arith}
use Rattle.parse77.proofs.FileReading.{deck_length}
use Rattle.parse77.proofs.deck.read_accepted.Goals as goal

pub file_refusals-requires : goal.file_refusals-requires
file_refusals-requires c =
    let same = deck_length c.in_ok-statements.statements.items c.args.deck.now.statements c.in_ok-statements.ensures in
    let all = ap length c.as_slice.ensures.value in
    record { room = omega (arith, c.requires.room) }
