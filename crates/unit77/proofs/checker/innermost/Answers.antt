use Rattle.std.proofs.Common.{sym, ◌∙◌}
use Rattle.unit77.proofs.Checking.{popped_ended, popped_open}
use Rattle.unit77.proofs.checker.innermost.Goals as goal

pub returns-then-is_some : goal.returns-then-is_some
returns-then-is_some c = popped_open c.args.stack.now c.loop-last.stack c.pop.new.self c.in-Some.last (sym c.is_some.ensures ∙ c.if-is_some.true) c.loop-last.invariant c.in-Some.ensures

pub loop-last-preserved : goal.loop-last-preserved
loop-last-preserved c = popped_ended c.args.stack.now c.loop-last.stack c.pop.new.self c.in-Some.last (sym c.is_some.ensures ∙ c.if-is_some.false) c.loop-last.invariant c.in-Some.ensures
