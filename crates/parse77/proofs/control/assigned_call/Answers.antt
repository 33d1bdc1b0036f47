use Rattle.std.proofs.Common.{rules}
use Rattle.expr_tree.specs.Plain.{expr_of}
use Rattle.parse77.proofs.Targets.{to_call}
use Rattle.parse77.proofs.control.assigned_call.Goals as goal

pub returns-else-is_empty : goal.returns-else-is_empty
returns-else-is_empty c = to_call c.args.name c.args.subscripts (expr_of c.args.value) (search rules)
