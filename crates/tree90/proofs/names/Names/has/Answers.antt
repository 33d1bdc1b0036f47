use Rattle.std.proofs.Common.{ap, ◌∙◌}
use Rattle.tree90.specs.MadeNames.{is_taken}
use Rattle.tree90.proofs.MadeNameLemmas.{is_taken_held}
use Rattle.tree90.proofs.names.Names.has.Goals as goal

pub returns : goal.returns
returns c =
    let name = c.args.characters.now.items in
    c.contains.ensures ∙ is_taken_held name c.self.inside.taken.keys ∙ ap (λ taken. is_taken taken name) c.self.view_is
