use Rattle.std.proofs.Common.{ap, ◌∙◌}
use Rattle.order77.specs.NameSets.{lent}
use Rattle.order77.proofs.NameLemmas.{lent_one}
use Rattle.order77.proofs.names.Names.add.Goals as goal

pub returns : goal.returns
returns c = ap lent c.in_ok-insert.ensures.keys ∙ lent_one c.args.name c.args.self.now.keys.keys
