use Rattle.std.proofs.Common.{sym, ◌∙◌}
use Rattle.unit77.proofs.Checking.{same_back, same_ended, inner_ended, inner_loops}
use Rattle.unit77.proofs.checker.end_inner.Goals as goal

pub returns-then-not-names-clause-loops : goal.returns-then-not-names-clause-loops
returns-then-not-names-clause-loops c =
    let same = same_back c.loop-mark.stack c.innermost.new.stack c.push.new.self c.in-Some.mark c.in-Some.ensures c.in_ok-push.ensures.ok in
    c.loop-mark.invariant.1 ∙ sym (same.loops c.args.label)

pub returns-then-not-names-clause-ended : goal.returns-then-not-names-clause-ended
returns-then-not-names-clause-ended c =
    same_ended c.args.label c.args.stack.now c.loop-mark.stack c.push.new.self
    (same_back c.loop-mark.stack c.innermost.new.stack c.push.new.self c.in-Some.mark c.in-Some.ensures c.in_ok-push.ensures.ok) c.loop-mark.invariant.0

pub loop-mark-preserved : goal.loop-mark-preserved
loop-mark-preserved c =
    let is = sym c.names.ensures ∙ c.if-not-names.false in (
      inner_ended c.args.label c.args.stack.now c.loop-mark.stack c.innermost.new.stack c.in-Some.mark c.in-Some.ensures is c.loop-mark.invariant.0,
      inner_loops c.args.label c.loop-mark.stack c.innermost.new.stack c.in-Some.mark c.loop-mark.loops c.pop-ended.new.self c.pop-ended.result c.in-Some.ensures is c.loop-mark.invariant.1 c.pop-ended.ensures,
    )
