use Rattle.std.proofs.Common.{true, [], sym, ap, ◌∙◌}
use Rattle.order77.specs.Naming.{name_behind, name_or_main, lent_name}
use Rattle.order77.specs.ReadViews.{readings_of}
use Rattle.order77.proofs.NamingLemmas.{naming_more, naming_done}
use Rattle.order77.proofs.naming.last_name.Goals as goal

pub loop-read-preserved : goal.loop-read-preserved
loop-read-preserved c =
    naming_more (name_behind true [] (readings_of c.args.statements.now)) c.args.statements.now c.loop-read.read-index c.read-item.result c.loop-read.naming.is_first c.step-naming.result.is_first
    (lent_name c.loop-read.naming.name) (lent_name c.step-naming.result.name) c.loop-read-test.true c.read-item.is c.step-naming.ensures c.loop-read.invariant

pub returns-in-Some : goal.returns-in-Some
returns-in-Some c =
    c.as_slice.ensures.characters ∙ sym (ap (λ o. name_or_main (lent_name o)) c.in-Some.is)
    ∙ naming_done c.args.statements.now c.loop-read.read-index c.loop-read.naming.is_first (lent_name c.loop-read.naming.name) c.loop-read-test.false c.loop-read.invariant

pub returns-in-None : goal.returns-in-None
returns-in-None c =
    sym (ap (λ o. name_or_main (lent_name o)) c.in-None.is)
    ∙ naming_done c.args.statements.now c.loop-read.read-index c.loop-read.naming.is_first (lent_name c.loop-read.naming.name) c.loop-read-test.false c.loop-read.invariant
