use Rattle.std.proofs.Common.{◌≡◌, ◌<◌, ◌≤◌, length, ◌∙◌, ap, arith}
use Rattle.order77.specs.ReadViews.{readings_of}
use Rattle.order77.specs.Settling.{functions, settled}
use Rattle.order77.proofs.SettlingLemmas.{left_start, left_more, left_end}
use Rattle.order77.proofs.settling.settle.Goals as goal

pub loop-i-init : goal.loop-i-init
loop-i-init c =
    left_start c.in_ok-flags.flags.items c.args.statements.items c.deref_mut-read-items.result.now (c.in_ok-flags.ensures ∙ ap (λ l. functions (readings_of l)) c.as_slice.ensures.value)
    c.deref_mut-read-items.ensures.value

pub loop-i-preserved : goal.loop-i-preserved
loop-i-preserved c = let lt : c.loop-i.i < length c.loop-i.read-items = omega arith in
    left_more c.loop-i.i c.in_ok-flags.flags.items c.loop-i.read-items (settled (readings_of c.args.statements.items)) c.index.result.now c.read-item.result c.settle_one.new.read
    lt c.index.ensures c.in_ok-settle_one.ensures c.loop-i.invariant

pub returns : goal.returns
returns c =
    let le : length c.loop-i.read-items ≤ c.loop-i.i = omega arith in
    let ge : c.loop-i.i ≤ length c.loop-i.read-items = omega arith in
    let same : length c.loop-i.read-items ≡ length c.args.statements.items = omega (arith, ap length c.deref_mut-read-items.ensures.value) in
    let all : c.args.statements.len ≡ length c.args.statements.items = omega (arith, ap length c.as_slice.ensures.value) in
    left_end c.loop-i.i c.args.statements.len c.in_ok-flags.flags.items c.args.statements.items c.loop-i.read-items (settled (readings_of c.args.statements.items))
    le ge same all c.loop-i.invariant
