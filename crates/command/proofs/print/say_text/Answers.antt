use Rattle.std.proofs.Common.{◌≡◌, inl, inr, refl, Err, rules}
use Rattle.text_base.specs.declared.sink.SinkError.TheVariants.{Failed, Memory}
use Rattle.command.specs.Lines.{sink_line, memory_line}
use Rattle.command.specs.Print.{SinkCounts, HasFailed, WasDenied}
use Rattle.command.proofs.PrintLemmas.{cut_put, main_is}
use Rattle.command.proofs.print.say_text.Goals as goal

pub returns-in-Err-Failed-clause-says : goal.returns-in-Err-Failed-clause-says
returns-in-Err-Failed-clause-says g c =
    let first = c.print-outcome.ensures in
    let second = c.print.ensures in
    let is : c.print-outcome.result ≡ Err Failed = search rules in
    let before : SinkCounts = record { faults = g.O.Sink.faults c.args.out.now; denials = g.O.Sink.denials c.args.out.now } in
    let cut : SinkCounts = record { faults = g.O.Sink.faults c.print-outcome.new.out; denials = g.O.Sink.denials c.print-outcome.new.out } in
    let now : SinkCounts = record { faults = g.O.Sink.faults c.print.new.out; denials = g.O.Sink.denials c.print.new.out } in
    let part = rw is at first.part in
    let all = cut_put HasFailed before cut now _ _ _ c.args.text.now sink_line (first.count, first.denial_count) (first.failed is) (second.count, second.denial_count)
    part c.print.result second.whole second.part second.failed second.denied in
    (all.0, all.1, inr (inr (inl (main_is _ c.in-Done.is, refl, all.2))))

pub returns-in-Err-Memory-clause-says : goal.returns-in-Err-Memory-clause-says
returns-in-Err-Memory-clause-says g c =
    let first = c.print-outcome.ensures in
    let second = c.print-in-Err-Memory.ensures in
    let is : c.print-outcome.result ≡ Err Memory = search rules in
    let before : SinkCounts = record { faults = g.O.Sink.faults c.args.out.now; denials = g.O.Sink.denials c.args.out.now } in
    let cut : SinkCounts = record { faults = g.O.Sink.faults c.print-outcome.new.out; denials = g.O.Sink.denials c.print-outcome.new.out } in
    let now : SinkCounts = record { faults = g.O.Sink.faults c.print-in-Err-Memory.new.out; denials = g.O.Sink.denials c.print-in-Err-Memory.new.out } in
    let part = rw is at first.part in
    let all = cut_put WasDenied before cut now _ _ _ c.args.text.now memory_line (first.count, first.denial_count) (first.denied is) (second.count, second.denial_count)
    part c.print-in-Err-Memory.result second.whole second.part second.failed second.denied in
    (all.0, all.1, inr (inr (inr (main_is _ c.in-Done.is, refl, all.2))))
