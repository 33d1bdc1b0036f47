use Rattle.std.proofs.Common.{refl}
use Rattle.std.proofs.lemmas.Result.{on_ok_weaker}
use Rattle.unit77.proofs.Checking.{same_back, same_sound}
use Rattle.unit77.proofs.checker.Checker.close.Goals as goal

pub returns-clause-sound : goal.returns-clause-sound
returns-clause-sound c =
    let same = same_back c.args.self.now.stack c.innermost.new.stack c.push-2.new.self c.in-Some.head c.in-Some.ensures c.in_ok-push.ensures.ok in
    on_ok_weaker c.push-3.result (λ now. same_sound c.args.mark.number c.args.self.now _ same refl refl c.requires) c.push-3.ensures.ok
