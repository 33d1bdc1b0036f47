use Rattle.std.proofs.Common.{◌≡◌, ◌++◌, List, map, flat_map, take}
use Rattle.expr_tree.specs.Plain.{expr_of}
use Rattle.expr_tree.specs.declared.tree.Expr.{Expr}
use Rattle.order77.specs.Names.{member_uses}
use Rattle.order77.specs.NameSets.{lent}
use Rattle.order77.proofs.uses.equivalence_uses.Given as goal

abbrev pub invariant-loop-class : goal.invariant-loop-class
invariant-loop-class l = lent l.found ≡ lent l.fn.found ++ flat_map (λ (x : List Expr). flat_map member_uses (map expr_of x)) (take l.class-index l.classes)
