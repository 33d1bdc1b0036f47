use Rattle.std.proofs.Common.{refl, rules}
use Rattle.tree77.specs.StatementPlain.{statement_of}
use Rattle.unit77.specs.Views.{line}
use Rattle.unit77.proofs.Building.{took, one_header, may_act, other_than_end}
use Rattle.unit77.proofs.units.Building.take.Goals as goal

pub add-requires : goal.add-requires
add-requires c =
    let on = other_than_end c.args.statement c.in_default.not-End in
    let (all, left, p) = c.requires in
    record {
      not_end = search rules;
      one_header = λ is. one_header all left c.args.self.now (line c.args.at.number c.args.at.label c.args.at.place (statement_of c.args.statement)) p on is;
      fits = λ acts. may_act all left c.args.self.now (line c.args.at.number c.args.at.label c.args.at.place (statement_of c.args.statement)) p on acts;
    }

pub returns-in_ok-add-in_default : goal.returns-in_ok-add-in_default
returns-in_ok-add-in_default c all left p =
    took all left c.args.self.now _ (line c.args.at.number c.args.at.label c.args.at.place (statement_of c.args.statement)) (other_than_end c.args.statement c.in_default.not-End) refl c.in_ok-add-in_default.ensures p
