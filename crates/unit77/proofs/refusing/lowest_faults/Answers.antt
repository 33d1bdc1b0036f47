use Rattle.std.proofs.Common.{sym, subst, take}
use Rattle.order77.specs.declared.mark.Fault.TheVariants.{Depth}
use Rattle.unit77.specs.Slots.{AreLowest}
use Rattle.unit77.proofs.SlotLemmas.{slots_written}
use Rattle.unit77.proofs.refusing.lowest_faults.Goals as goal

pub loop-stray-preserved : goal.loop-stray-preserved
loop-stray-preserved c =
    let before = take c.loop-stray.stray-index c.args.strays.now in
    let kept = c.keep.ensures c.args.count before (subst (λ l. AreLowest l c.args.count before) (sym c.deref_mut.ensures.value) c.loop-stray.invariant) in
    slots_written c.loop-stray.slots.len c.args.count c.loop-stray.slots.items c.keep.new.slots c.args.strays.now c.loop-stray.stray-index (record { number = 0; fault = Depth }) c.loop-stray-test.true
    c.loop-stray.slots.ok.0 c.loop-stray.invariant.counted kept
