use Rattle.std.proofs.Common.{◌≡◌, true, false, sym, ap, ◌∙◌}
use Rattle.order77.specs.Counts.{counts_as, is_end}
use Rattle.order77.specs.ReadViews.{reading_at}
use Rattle.unit77.proofs.Passing.{ended_going, taken_going}
use Rattle.unit77.proofs.check.Pass.step.Goals as goal

pub returns-in_ok-end-clause-going : goal.returns-in_ok-end-clause-going
returns-in_ok-end-clause-going c all n left =
    let r = reading_at c.args.number c.args.read.now in
    let is : is_end (counts_as r) ≡ true = ap is_end (sym (c.counts_as.ensures c.args.number)) ∙ sym c.is_end.ensures ∙ c.if-is_end.true in
    ended_going all n left r c.args.self.now c.end.new.self is c.in_ok-end.ensures.pass c.in_ok-end.ensures.strays

pub returns-in_ok-take-clause-going : goal.returns-in_ok-take-clause-going
returns-in_ok-take-clause-going c all n left =
    let r = reading_at c.args.number c.args.read.now in
    let is : is_end (counts_as r) ≡ false = ap is_end (sym (c.counts_as.ensures c.args.number)) ∙ sym c.is_end.ensures ∙ c.if-is_end.false in
    taken_going all n left r c.args.self.now c.take.new.self is c.in_ok-take.ensures.pass c.in_ok-take.ensures.strays
