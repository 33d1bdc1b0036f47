use Rattle.order77.specs.NameSets.{labels_in}
use Rattle.order77.specs.ReadViews.{reading_at}
use Rattle.unit77.proofs.Passing.{ended_strays}
use Rattle.unit77.proofs.check.Pass.end.Goals as goal

pub returns-clause-strays : goal.returns-clause-strays
returns-clause-strays c before pass =
    ended_strays before (reading_at c.args.number c.args.read.now) c.args.self.now.checker c.end.new.self c.refuse.new.checker (labels_in c.args.self.now.targets) c.count-are_many.result
    pass.open_ pass.noted.targets c.count-are_many.ensures c.in_ok-end.ensures.strays c.in_ok-refuse.ensures.strays
