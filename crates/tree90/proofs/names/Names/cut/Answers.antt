use Rattle.std.proofs.Common.{map, take, ap, sym, ◌∙◌}
use Rattle.std.proofs.lemmas.List.{take-map}
use Rattle.tree90.proofs.MadeNameLemmas.{items}
use Rattle.tree90.proofs.names.Names.cut.Goals as goal

pub returns : goal.returns
returns c =
    ap (map items) c.truncate.ensures.keys ∙ sym (take-map items c.args.count c.self.inside.taken.keys) ∙ ap (take c.args.count) c.self.view_is
