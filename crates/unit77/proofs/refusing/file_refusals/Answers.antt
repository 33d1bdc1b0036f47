use Rattle.std.proofs.Common.{◌∙◌}
use Rattle.unit77.specs.FileRefusals.{file_refusals}
use Rattle.order77.specs.ReadViews.{readings_of}
use Rattle.unit77.proofs.SlotLemmas.{refused_more, refused_done}
use Rattle.unit77.proofs.refusing.file_refusals.Goals as goal

pub loop-number-preserved : goal.loop-number-preserved
loop-number-preserved c =
    let rs = c.args.statements.now in
    refused_more rs c.loop-number.number c.index-statements-number.result c.last_name-unit.result.now c.in_ok-slots.slots.items c.index.result.now c.as_slice.result.now c.in_ok-refusal.refusal
    c.loop-number.refusals c.add.new.refusals (file_refusals (readings_of rs)) c.loop-number-test.true c.index-statements-number.is c.last_name-unit.ensures (c.as_slice.ensures ∙ c.in_ok-strays.ensures)
    c.in_ok-slots.ensures c.index.ensures c.in_ok-refusal.ensures c.in_ok-add.ensures c.loop-number.invariant

pub returns : goal.returns
returns c = refused_done c.args.statements.now c.loop-number.number c.loop-number.refusals (file_refusals (readings_of c.args.statements.now)) c.loop-number-test.false c.loop-number.invariant
