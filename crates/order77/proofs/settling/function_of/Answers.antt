use Rattle.std.proofs.Common.{sym}
use Rattle.expr_tree.specs.Plain.{expr_of}
use Rattle.order77.proofs.SettlingLemmas.{unchanged}
use Rattle.order77.proofs.settling.function_of.Goals as goal

pub returns-in_default : goal.returns-in_default
returns-in_default c = sym (unchanged (expr_of c.args.value) c.args.variable c.in_default.not-Call)
