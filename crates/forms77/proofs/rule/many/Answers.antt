use Rattle.std.proofs.Common.{◌∙◌, sym, ap, map, ◌+◌, ◌-◌, [], ◌∷◌}
use Rattle.std.proofs.lemmas.List.{map-append}
use Rattle.forms77.specs.Reading.{read_repeated}
use Rattle.forms77.proofs.ListSteps.{in_front, repeated_goes_on}
use Rattle.forms77.proofs.rule.many.Goals as goal

pub loop-preserved : goal.loop-preserved
loop-preserved g c =
    let r = (g.R.Rule.reader c.args.rule.now) in
    let view = g.R.Rule.plain in
    let x = c.in_ok-read.field-0 in
    let left = read_repeated c.args.sorts.now r (c.len-turns.result - (c.loop.counter + 1)) c.read.new.feed in
    ap (λ ys. in_front (map view ys) left) c.in_ok-push.ensures.ok
    ∙ ap (λ ys. in_front ys left) (map-append view c.loop.items (x ∷ []))
    ∙ sym (repeated_goes_on c.args.sorts.now r c.len-turns.result c.loop.counter (map view c.loop.items) c.loop.feed c.read.new.feed (view x) c.loop-test.true (sym c.is_at.ensures ∙ c.if-not-is_at.false) c.in_ok-read.ensures)
    ∙ c.loop.invariant
