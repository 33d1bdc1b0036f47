use Rattle.std.proofs.Common.{[], sym, ◌∙◌, ap}
use Rattle.order77.specs.Counts.{is_end}
use Rattle.order77.specs.NameSets.{names_in, with_names}
use Rattle.order77.proofs.SettlingLemmas.{ahead, ahead_any, ahead_end, ahead_next, ahead_done}
use Rattle.order77.proofs.settling.arrays_ahead.Goals as goal

pub returns-then-is_end : goal.returns-then-is_end
returns-then-is_end c = λ n.
    ahead_any n (names_in c.loop-read.held) c.args.statements.now (ahead_end (names_in c.loop-read.held) (with_names [] (ahead c.args.statements.now)) c.args.statements.now c.loop-read.read-index c.read-item.result
    c.read-item.is c.loop-read-test.true (ap is_end (sym (c.counts_as.ensures 0)) ∙ sym c.is_end.ensures ∙ c.if-is_end.true) c.loop-read.invariant)

pub loop-read-preserved : goal.loop-read-preserved
loop-read-preserved c =
    ahead_next (names_in c.loop-read.held) (names_in c.add_arrays.new.held) (with_names [] (ahead c.args.statements.now)) c.args.statements.now c.loop-read.read-index c.read-item.result
    c.read-item.is c.loop-read-test.true (ap is_end (sym (c.counts_as.ensures 0)) ∙ sym c.is_end.ensures ∙ c.if-is_end.false) (c.in_ok-add_arrays.ensures 0) c.loop-read.invariant

pub returns : goal.returns
returns c = λ n.
    ahead_any n (names_in c.loop-read.held) c.args.statements.now (ahead_done (names_in c.loop-read.held) (with_names [] (ahead c.args.statements.now)) c.args.statements.now c.loop-read.read-index c.loop-read-test.false c.loop-read.invariant)
