use Rattle.std.proofs.Common.{◌≡◌, length}
use Rattle.unit77.specs.Running.{join, ended}
use Rattle.unit77.specs.Views.{stack_of, items_of, body_of}
use Rattle.unit77.proofs.nester.Nester.take.Given as goal

-- ending what is open here is ending all that was
abbrev pub invariant-loop-last : goal.invariant-loop-last
invariant-loop-last l = ended l.at.label (items_of l.self.items) (stack_of l.self.open) ≡ ended l.at.label (join (items_of l.fn.self.items) (body_of l.fn.body l.at.number l.at.label l.at.place)) (stack_of l.fn.self.open)

abbrev pub decreases-loop-last : goal.decreases-loop-last
decreases-loop-last l = length l.self.open
