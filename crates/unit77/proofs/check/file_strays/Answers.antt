use Rattle.std.proofs.Common.{arith, subst}
use Rattle.unit77.specs.Checking.{IsSound}
use Rattle.order77.specs.ReadViews.{readings_of}
use Rattle.unit77.specs.Units.{file_strays}
use Rattle.unit77.proofs.Passing.{going_more, going_done}
use Rattle.unit77.proofs.check.file_strays.Goals as goal

pub loop-read-preserved : goal.loop-read-preserved
loop-read-preserved c = record {
  going = going_more (file_strays (readings_of c.args.statements.now)) c.args.statements.now c.loop-read.read-index c.loop-read.number c.loop-read.last c.read-item.result c.loop-read.pass c.step.new.self
      c.loop-read-test.true c.read-item.is c.loop-read.invariant.counted c.in_ok-step.ensures.going c.loop-read.invariant.going;
  counted = omega arith;
  sound = subst (λ n. IsSound n c.step.new.self.checker) (omega arith) c.in_ok-step.ensures.sound;
}

pub returns : goal.returns
returns c =
    going_done (file_strays (readings_of c.args.statements.now)) c.finish.new.self.checker.strays c.args.statements.now c.loop-read.read-index c.loop-read.last c.loop-read.pass c.loop-read-test.false
    c.in_ok-finish.ensures c.loop-read.invariant.going
