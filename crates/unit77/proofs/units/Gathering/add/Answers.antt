use Rattle.std.proofs.Common.{◌≡◌, true, refl, ap, rules}
use Rattle.unit77.specs.Nesting.{is_executable}
use Rattle.unit77.specs.Views.{line}
use Rattle.unit77.specs.declared.units.Gathering.{Gathering}
use Rattle.tree77.specs.StatementPlain.{statement_of}
use Rattle.unit77.proofs.Building.{acted}
use Rattle.unit77.proofs.units.Gathering.add.Goals as goal

pub returns-in_ok-step-in_default : goal.returns-in_ok-step-in_default
returns-in_ok-step-in_default c own g =
    let acts : is_executable (statement_of c.args.statement) ≡ true = search rules in
    acted c.args.self.now _ own (line c.args.at.number c.args.at.label c.args.at.place (statement_of c.args.statement)) g (c.begin.ensures.first own _ g.first refl refl)
    (ap (λ (x : Gathering). x.header) c.begin.ensures.others) (ap (λ (x : Gathering). x.declared) c.begin.ensures.others) (ap (λ (x : Gathering). x.functions) c.begin.ensures.others) acts (c.requires.fits acts) (search rules)
