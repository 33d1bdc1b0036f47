use Rattle.std.proofs.Common.{refl, rules}
use Rattle.tree77.specs.Statements as s
use Rattle.unit77.specs.Views.{line}
use Rattle.unit77.proofs.Building.{ended}
use Rattle.unit77.proofs.units.Building.end.Goals as goal

pub returns : goal.returns
returns c all left p =
    ended all left c.args.self.now _ (line c.args.at.number c.args.at.label c.args.at.place s.end) c.end.result refl c.in_ok-push.ensures.ok (search rules) (search rules) c.end.ensures.last p
