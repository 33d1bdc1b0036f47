use Rattle.std.proofs.Common.{sym, ap, ◌∙◌, if◌then◌else◌}
use Rattle.order77.specs.Naming.{lent_name, own_names}
use Rattle.order77.specs.ReadViews.{reading_at}
use Rattle.order77.specs.Names.{within}
use Rattle.order77.proofs.NamingLemmas.{name_step, name_other}
use Rattle.order77.proofs.naming.Naming.step.Goals as goal

pub returns-in-End : goal.returns-in-End
returns-in-End c n rest = name_step c.args.self.is_first (lent_name c.args.self.name) (reading_at n c.args.read.now) rest _ (c.in-End.ensures n)

pub returns-in-Nothing : goal.returns-in-Nothing
returns-in-Nothing c n rest = name_step c.args.self.is_first (lent_name c.args.self.name) (reading_at n c.args.read.now) rest _ (c.in-Nothing.ensures n)

pub returns-then-self : goal.returns-then-self
returns-then-self c n rest =
    let r = reading_at n c.args.read.now in
    name_other c.args.self.is_first (lent_name c.args.self.name) (lent_name c.own_name.result) r rest c.counts_as.result (c.counts_as.ensures n) c.in_default.not-End c.in_default.not-Nothing
    (c.own_name.ensures ∙ sym (ap (λ b. if b then within own_names r else lent_name c.args.self.name) c.if-self.true))

pub returns-else-self : goal.returns-else-self
returns-else-self c n rest =
    let r = reading_at n c.args.read.now in
    name_other c.args.self.is_first (lent_name c.args.self.name) (lent_name c.args.self.name) r rest c.counts_as.result (c.counts_as.ensures n) c.in_default.not-End c.in_default.not-Nothing
    (sym (ap (λ b. if b then within own_names r else lent_name c.args.self.name) c.if-self.false))
