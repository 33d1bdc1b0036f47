use Rattle.std.proofs.Common.{arith}
use Rattle.tree90.proofs.MadeNameLemmas.{so_far}
use Rattle.tree90.proofs.names.Names.first_free.Goals as goal

pub tried-characters-requires-in-loop-characters : goal.tried-characters-requires-in-loop-characters
tried-characters-requires-in-loop-characters c =
    let far = so_far c.args.self.now c.args.base.now _ _ _ c.loop-characters.invariant c.requires c.has.ensures c.loop-characters-test.true in
    omega (arith, far.0)

pub loop-characters-smaller : goal.loop-characters-smaller
loop-characters-smaller c =
    let far = so_far c.args.self.now c.args.base.now _ _ _ c.loop-characters.invariant c.requires c.has.ensures c.loop-characters-test.true in
    omega (arith, far.0)

pub loop-characters-preserved : goal.loop-characters-preserved
loop-characters-preserved c =
    let far = so_far c.args.self.now c.args.base.now _ _ _ c.loop-characters.invariant c.requires c.has.ensures c.loop-characters-test.true in
    (c.tried-characters-in-loop-characters.ensures, omega (arith, far.0), far.1)
