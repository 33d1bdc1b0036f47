use Rattle.tree90.proofs.MadeNameLemmas.{with_held}
use Rattle.tree90.proofs.names.Names.add.Goals as goal

pub returns-clause-added : goal.returns-clause-added
returns-clause-added c =
    with_held c.args.characters c.self.inside.taken.keys _ _ c.self.view_is c.requires c.in_ok-insert.ensures.keys
