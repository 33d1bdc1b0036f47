use Rattle.std.proofs.Common.{◌≤◌, length, subst}
use Rattle.forms77.proofs.Shapes.{some_are}
use Rattle.forms77.proofs.shape.are_some.Goals as goal

pub returns-in-len1-up : goal.returns-in-len1-up
returns-in-len1-up c = some_are c.args.exprs.now (subst (λ xs. 1 ≤ length xs) c.as_slice.ensures c.in-len1-up.len_at_least)
