use Rattle.std.proofs.Common.{◌≡◌, drop}
use Rattle.unit77.specs.Checking.{IsSound}
use Rattle.unit77.specs.Passing.{IsGoing}
use Rattle.order77.specs.ReadViews.{readings_from, readings_of}
use Rattle.unit77.specs.Units.{file_strays}
use Rattle.unit77.proofs.check.file_strays.Given as goal

abbrev pub invariant-loop-read : goal.invariant-loop-read
invariant-loop-read l = record {
  going : IsGoing (file_strays (readings_of l.statements)) l.last (readings_from l.read-index (drop l.read-index l.statements)) l.pass;
  counted : l.number ≡ l.read-index;
  sound : IsSound l.number l.pass.checker;
}
