use Rattle.std.proofs.Common.{◌<◌, length, ap, ◌∙◌, arith}
use Rattle.order77.specs.ReadViews.{readings_of}
use Rattle.parse77.proofs.FileReading.{readings_more}
use Rattle.parse77.proofs.reader.read_cards.Goals as goal

pub loop-card-preserved : goal.loop-card-preserved
loop-card-preserved c =
    let lt : c.loop-card.card-index < length c.args.cards.now = omega arith in
    ap readings_of c.in_ok-push.ensures.items
    ∙ readings_more c.loop-card.made.items c.args.cards.now c.loop-card.card-index c.in_ok-read_card.field-0 c.card-item.result lt c.card-item.is c.loop-card.invariant c.in_ok-read_card.ensures
