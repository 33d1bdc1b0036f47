use Rattle.std.proofs.Common.{◌∙◌, sym, ap, map, ◌+◌, ◌-◌, [], ◌∷◌}
use Rattle.std.proofs.lemmas.List.{map-append}
use Rattle.forms77.specs.Reading.{read_repeated}
use Rattle.forms77.specs.Words.{read_behind}
use Rattle.forms77.proofs.ListSteps.{in_front, repeated_goes_on, behind_reads}
use Rattle.forms77.proofs.rule.list.Goals as goal

pub loop-preserved : goal.loop-preserved
loop-preserved g c =
    let r = read_behind 44 (g.R.Rule.reader c.args.rule.now) in
    let view = g.R.Rule.plain in
    let x = c.in_ok-read-2.field-0 in
    let left = read_repeated (44 ∷ []) r (c.len-turns.result - (c.loop.counter + 1)) c.read-in-loop.new.feed in
    ap (λ ys. in_front (map view ys) left) c.in_ok-push-2.ensures.ok
    ∙ ap (λ ys. in_front ys left) (map-append view c.loop.items (x ∷ []))
    ∙ sym (repeated_goes_on (44 ∷ []) r c.len-turns.result c.loop.counter (map view c.loop.items) c.loop.feed c.read-in-loop.new.feed (view x) c.loop-test.true (sym c.is_at.ensures ∙ c.if-not-is_at.false)
    (behind_reads 44 (g.R.Rule.reader c.args.rule.now) c.loop.feed c.mark.new.self c.read-in-loop.new.feed (view x) c.in_ok-mark.ensures c.in_ok-read-2.ensures))
    ∙ c.loop.invariant
