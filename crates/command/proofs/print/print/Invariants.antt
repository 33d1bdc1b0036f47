use Rattle.std.proofs.Common.{length}
use Rattle.command.proofs.PrintLemmas.{StillPrints}
use Rattle.command.proofs.print.print.Given as goal

abbrev pub invariant-loop-rest : goal.invariant-loop-rest
invariant-loop-rest g l = StillPrints l.fn.text l.rest (g.O.Sink.written l.fn.out) (g.O.Sink.written l.out) (g.O.Sink.faults l.fn.out) (g.O.Sink.faults l.out) (g.O.Sink.denials l.fn.out) (g.O.Sink.denials l.out) (g.O.Sink.reliable l.fn.out) (g.O.Sink.reliable l.out)

abbrev pub decreases-loop-rest : goal.decreases-loop-rest
decreases-loop-rest g l = length l.rest
