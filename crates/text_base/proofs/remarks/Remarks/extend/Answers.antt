use Rattle.std.proofs.Common.{refl, rules, arith}
use Rattle.std.proofs.lemmas.Grind.{common_steps}
use Rattle.text_base.specs.Remarks.{remarks_in}
use Rattle.text_base.proofs.RemarkLines.{lengthened}
use Rattle.text_base.proofs.remarks.Remarks.extend.Goals as goal

pub invariant_of-self : goal.invariant_of-self
invariant_of-self c =
    (lengthened c.extend.result c.self.inside.lines c.more.inside.lines c.extend.new.self (remarks_in c.more.inside.lines) c.self.invariant (record { kept = c.more.invariant; read = refl }) (search rules) (search rules)).0

pub returns : goal.returns
returns c =
    let both = (lengthened c.extend.result c.self.inside.lines c.more.inside.lines c.extend.new.self (remarks_in c.more.inside.lines) c.self.invariant (record { kept = c.more.invariant; read = refl }) (search rules) (search rules)).1 in
    grind (arith, common_steps)
