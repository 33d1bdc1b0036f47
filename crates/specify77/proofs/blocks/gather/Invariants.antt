use Rattle.std.proofs.Common.{◌≡◌, map, length}
use Rattle.specify77.specs.MemberViews.{member_of, gathered_of}
use Rattle.specify77.proofs.Members.{onto}
use Rattle.specify77.proofs.blocks.gather.Given as goal
use Rattle.tree77.specs.SpecificationForms.{in_blocks}

-- what is left, before what was taken, gives what all give
abbrev pub invariant-loop-member : goal.invariant-loop-member
invariant-loop-member l = onto (map member_of l.members) (gathered_of l.gathered) ≡ in_blocks (map member_of l.fn.members)

abbrev pub decreases-loop-member : goal.decreases-loop-member
decreases-loop-member l = length l.members
