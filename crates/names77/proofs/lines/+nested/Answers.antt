use Rattle.std.proofs.Common.{◌++◌, [], ◌∷◌, map, flat_map, ap, ◌∙◌}
use Rattle.std.proofs.lemmas.List.{map-append, take_all}
use Rattle.unit77.specs.Tree.{flat}
use Rattle.unit77.specs.Views.{arm_of, items_of, parts_from}
use Rattle.names77.specs.Views.{shown_line, shown_lines}
use Rattle.names77.proofs.NestedLemmas.{part_lines, item_more, arm_more, arms_all}
use Rattle.names77.proofs.lines.+nested.Goals as goal

pub add_items-loop-item-preserved : goal.add_items-loop-item-preserved
add_items-loop-item-preserved t c =
    item_more c.args.items.now c.loop-item.item-index c.item-item.result _ _ _ c.item-item.is c.loop-item-test.true c.loop-item.invariant c.in_ok-add_body.ensures

pub add_arms-loop-index-preserved : goal.add_arms-loop-index-preserved
add_arms-loop-index-preserved t c =
    arm_more c.args.at.number c.args.at.label c.args.at.place c.args.arms.now c.loop-index.index c.index-arms-index.result _ _ _ _ _
    c.index-arms-index.is c.loop-index-test.true c.arm_line.ensures c.loop-index.invariant
    (ap shown_lines c.in_ok-push.ensures.ok ∙ map-append shown_line c.loop-index.lines (c.arm_line.result ∷ []))
    (c.in_ok-add_items.ensures ∙ ap (λ is. shown_lines c.push-in-loop-index.new.self ++ flat (items_of is)) c.as_slice.ensures)

pub add_arms-returns : goal.add_arms-returns
add_arms-returns t c =
    c.loop-index.invariant
    ∙ ap (λ xs. shown_lines c.args.lines.now ++ flat_map part_lines (parts_from c.args.at.number c.args.at.label c.args.at.place (map arm_of xs))) (take_all c.loop-index.index c.args.arms.now c.loop-index-test.false)
    ∙ ap (λ ls. shown_lines c.args.lines.now ++ ls) (arms_all c.args.at.number c.args.at.label c.args.at.place c.args.arms.now c.if-is_empty.ensures)
