use Rattle.std.proofs.Common.{arith, ◌≡◌, ◌+◌, ◌-◌, [], ◌∷◌, ◌++◌, drop, take, sym, ap, ◌∙◌}
use Rattle.std.proofs.lemmas.List.{map-append, take_rest, length-drop, drop_all}
use Rattle.names77.specs.Text.{merged}
use Rattle.names77.specs.Views.{shown_line, shown_lines}
use Rattle.names77.proofs.MergingLemmas.{merges, merged_nil}
use Rattle.names77.proofs.lines.merged.Goals as goal

pub loop-line-preserved : goal.loop-line-preserved
loop-line-preserved c =
    let n : c.loop-line.taken + c.count_before.result - c.loop-line.taken ≡ c.count_before.result = omega arith in
    let within = rw take_rest at c.count_before.ensures.within in (
      merges c.args.first.now c.args.second.now c.loop-line.lines c.push.new.self c.line-item.result c.loop-line.taken c.count_before.result c.loop-line.line-index
          c.line-item.is c.loop-line-test.true (rw take_rest at c.count_before.ensures.first) (rw take_rest at c.count_before.ensures.others)
          (c.in_ok-push.ensures.ok ∙ ap (λ xs. xs ++ c.line-item.result ∷ []) (c.in_ok-add_all.ensures ∙ ap (λ k. c.loop-line.lines ++ take k (drop c.loop-line.taken c.args.first.now)) n))
          ∙ c.loop-line.invariant.0,
      omega (arith, c.loop-line.invariant.1, simp length-drop at within),
    )

pub returns : goal.returns
returns c =
    ap shown_lines (c.in_ok-add_all-2.ensures ∙ ap (λ xs. c.loop-line.lines ++ xs) (take_rest c.args.first.now c.loop-line.taken))
    ∙ map-append shown_line c.loop-line.lines (drop c.loop-line.taken c.args.first.now)
    ∙ ap (λ ys. shown_lines c.loop-line.lines ++ ys) (sym (merged_nil (shown_lines (drop c.loop-line.taken c.args.first.now))))
    ∙ ap (λ ys. shown_lines c.loop-line.lines ++ merged (shown_lines (drop c.loop-line.taken c.args.first.now)) (shown_lines ys)) (sym (drop_all c.loop-line.line-index c.args.second.now c.loop-line-test.false))
    ∙ c.loop-line.invariant.0
