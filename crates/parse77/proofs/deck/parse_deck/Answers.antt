use Rattle.std.proofs.Common.{arith}
use Rattle.parse77.proofs.FileReading.{deck_length}
use Rattle.parse77.proofs.deck.parse_deck.Goals as goal

pub nest_units-requires-clause-room : goal.nest_units-requires-clause-room
nest_units-requires-clause-room c =
    let same = deck_length c.in_ok-statements.statements.items c.args.deck.now.statements c.in_ok-statements.ensures.readings in
    omega (arith, c.requires.room)
