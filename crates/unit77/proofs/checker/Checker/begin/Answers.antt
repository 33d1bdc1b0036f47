use Rattle.std.proofs.Common.{refl, arith, ◌++◌, ap, ◌∙◌, Some}
use Rattle.std.proofs.lemmas.Result.{on_ok_weaker}
use Rattle.unit77.specs.Checking.{loops_for, loop_at}
use Rattle.unit77.proofs.Checking.{count_short, begun_sound}
use Rattle.unit77.proofs.checker.Checker.begin.Goals as goal

pub overflow_add-self : goal.overflow_add-self
overflow_add-self c = omega (arith, count_short c.args.mark.number c.args.self.now c.requires)

pub returns-clause-sound : goal.returns-clause-sound
returns-clause-sound c =
    on_ok_weaker c.refuse_deep.result (λ now. begun_sound c.args.mark.number c.args.self.now _ c.args.mark c.requires c.in_ok-push.ensures.ok refl
    (λ k. c.in_ok-note.ensures k ∙ ap (λ n. loops_for c.args.self.now.loops k ++ loop_at k n (Some c.args.mark)) c.len.ensures)) c.refuse_deep.ensures
