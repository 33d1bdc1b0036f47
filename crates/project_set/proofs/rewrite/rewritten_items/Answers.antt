use Rattle.std.proofs.Common.{◌≡◌, ℕ, ◌+◌, List, length, ap, ◌∙◌, arith}
use Rattle.std.proofs.lemmas.List.{length_push}
use Rattle.text_base.specs.Cards.{Comment}
use Rattle.project_set.specs.Comments.{groups_at}
use Rattle.project_set.specs.Rewrite.{remarks_at}
use Rattle.project_set.proofs.RewriteLemmas.{groups_last, items_all, made_more}
use Rattle.project_set.proofs.rewrite.rewritten_items.Goals as goal

pub loop-item-preserved : goal.loop-item-preserved
loop-item-preserved c =
    let old = c.loop-item.items in
    let new = c.pop.new.self in
    let fewer : length old ≡ length new + 1 = ap length c.in-Some.ensures ∙ length_push new c.in-Some.item in
    let groups : length c.loop-item.comments ≡ length c.last.new.comments + 1 = ap length c.last.ensures ∙ length_push c.last.new.comments c.last.result in
    let split : (cs : List Comment) (k : ℕ) → c.args.comments ≡ groups_at cs k (length c.args.items) → (c.last.new.comments ≡ groups_at cs k (length new)) × (c.last.result ≡ remarks_at cs (k + length new)) = λ cs k is.
    groups_last cs k (length new) c.loop-item.comments c.last.new.comments c.last.result c.last.ensures (c.loop-item.invariant.before cs k is ∙ ap (groups_at cs k) fewer) in
    record {
      counted = omega (arith, fewer, groups, c.loop-item.invariant.counted);
      all = items_all c.args.items old new c.in-Some.item c.in-Some.ensures c.loop-item.invariant.all;
      before = λ cs k is. (split cs k is).0;
      written = λ cs k is.
          made_more cs k c.args.items old new c.in-Some.item c.loop-item.made.items c.push.new.self.items c.in_ok-item.item (remarks_at cs (k + length c.args.items))
          c.in-Some.ensures c.loop-item.invariant.all c.in_ok-push.ensures.items (c.in_ok-item.ensures.comments ∙ (split cs k is).1) c.in_ok-item.ensures.body
          (c.loop-item.invariant.written cs k is);
    }
