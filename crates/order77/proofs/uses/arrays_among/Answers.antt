use Rattle.std.proofs.Common.{List, [], ◌∷◌, map}
use Rattle.tree77.specs.StatementPlain.{declarator_of}
use Rattle.tree77.specs.declared.statement.Declarator77.{Declarator77}
use Rattle.order77.specs.Names.{arrays_among}
use Rattle.order77.proofs.UseLemmas.{arrays_more, grown}
use Rattle.order77.proofs.uses.arrays_among.Goals as goal

pub loop-declarator-preserved : goal.loop-declarator-preserved
loop-declarator-preserved c =
    grown (λ (xs : List Declarator77). arrays_among (map declarator_of xs)) (λ (x : Declarator77). arrays_among (declarator_of x ∷ [])) arrays_more
    c.args.declarators.now c.loop-declarator.declarator-index c.declarator-item.result _ _ _ c.declarator-item.is c.loop-declarator-test.true c.loop-declarator.invariant c.in_ok-array_use.ensures
