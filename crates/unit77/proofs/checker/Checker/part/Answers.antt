use Rattle.std.proofs.Common.{refl, sym, ◌∙◌}
use Rattle.std.proofs.lemmas.Result.{on_ok_weaker}
use Rattle.unit77.proofs.Checking.{same_back, same_sound, if_arm, parted_sound}
use Rattle.unit77.proofs.checker.Checker.part.Goals as goal

pub returns-then-is_if-clause-sound : goal.returns-then-is_if-clause-sound
returns-then-is_if-clause-sound c =
    let is = if_arm c.in-Some.head.sort (sym c.is_if.ensures ∙ c.if-is_if.true) in
    on_ok_weaker c.push-then-is_if.result (λ now. parted_sound c.args.mark.number c.args.self.now _ c.in-Some.head c.args.mark c.innermost.new.stack c.in-Some.ensures is c.requires.arm now refl refl c.requires.sound) c.push-then-is_if.ensures.ok

pub returns-clause-sound : goal.returns-clause-sound
returns-clause-sound c =
    let same = same_back c.args.self.now.stack c.innermost.new.stack c.push-2.new.self c.in-Some.head c.in-Some.ensures c.in_ok-push.ensures.ok in
    on_ok_weaker c.push-3.result (λ now. same_sound c.args.mark.number c.args.self.now _ same refl refl c.requires.sound) c.push-3.ensures.ok
