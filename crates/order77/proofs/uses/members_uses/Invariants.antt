use Rattle.std.proofs.Common.{◌≡◌, ◌++◌, map, flat_map, take}
use Rattle.expr_tree.specs.Plain.{expr_of}
use Rattle.order77.specs.Names.{member_uses}
use Rattle.order77.specs.NameSets.{lent}
use Rattle.order77.proofs.uses.members_uses.Given as goal

abbrev pub invariant-loop-member : goal.invariant-loop-member
invariant-loop-member l = lent l.found ≡ lent l.fn.found ++ flat_map member_uses (map expr_of (take l.member-index l.members))
