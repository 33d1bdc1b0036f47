use Rattle.std.proofs.Common.{◌≡◌, ◌∙◌, sym, ap, subst, arith, map, ◌+◌, ◌-◌, [], ◌∷◌}
use Rattle.std.proofs.lemmas.List.{map-append}
use Rattle.tree77.specs.ListForms.{items_and_range, item}
use Rattle.tree77.specs.StatementPlain.{listed_of, range_of}
use Rattle.forms77.specs.Leaf.{leaf_form, behind_items}
use Rattle.forms77.specs.Reading.{read}
use Rattle.forms77.specs.Views.{Gives}
use Rattle.forms77.proofs.ItemSteps.{range_is_next, no_turn_is_left, item_is_next}
use Rattle.forms77.proofs.listed.+items.Goals as goal

pub items_behind-returns-then-is_ahead : goal.items_behind-returns-then-is_ahead
items_behind-returns-then-is_ahead t c =
    let one = item (leaf_form c.args.leaf) c.args.room in
    let next = sym (range_is_next one (map listed_of c.loop.items) c.args.room c.loop.counter c.loop.feed (sym c.is_ahead.ensures ∙ c.if-is_ahead.true)) ∙ c.loop.invariant in
    subst (λ found. Gives (λ r. (map listed_of r.0, range_of r.1)) c.range_behind.result c.range_behind.new.feed found) next c.range_behind.ensures

pub items_behind-loop-preserved : goal.items_behind-loop-preserved
items_behind-loop-preserved t c =
    let one = item (leaf_form c.args.leaf) c.args.room in
    let x = c.in_ok-item.field-0 in
    let left = read (items_and_range one (c.args.room - (c.loop.counter + 1))) c.item.new.feed in
    ap (λ ys. behind_items (map listed_of ys) left) c.in_ok-push-2.ensures.ok
    ∙ ap (λ ys. behind_items ys left) (map-append listed_of c.loop.items (x ∷ []))
    ∙ sym (item_is_next one (map listed_of c.loop.items) c.args.room c.loop.counter c.loop.feed c.mark.new.self c.item.new.feed (listed_of x) c.loop-test.true (sym c.is_ahead.ensures ∙ c.if-is_ahead.false) c.in_ok-mark.ensures c.in_ok-item.ensures)
    ∙ c.loop.invariant

pub items_behind-returns : goal.items_behind-returns
items_behind-returns t c =
    let one = item (leaf_form c.args.leaf) c.args.room in
    let done : c.args.room - c.loop.counter ≡ 0 = omega (arith, c.loop-test.false) in
    let next = sym (no_turn_is_left one (map listed_of c.loop.items) c.args.room c.loop.counter c.loop.feed done) ∙ c.loop.invariant in
    subst (λ found. Gives (λ r. (map listed_of r.0, range_of r.1)) c.range_behind-2.result c.range_behind-2.new.feed found) next c.range_behind-2.ensures
