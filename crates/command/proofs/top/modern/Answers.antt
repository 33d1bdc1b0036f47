use Rattle.text_base.specs.Faults.{Rose}
use Rattle.command.specs.Words.{words_of, form}
use Rattle.command.specs.Views.{status_of, text_of}
use Rattle.command.proofs.TopLemmas.{Ends, ends}
use Rattle.command.proofs.top.modern.Given.{Over}
use Rattle.command.proofs.top.modern.Goals as goal

-- how the call ends
end_of : (g : Over) (c : goal.Joined-outcome g) → Ends (form (words_of c.args.words.now)) (g.S.Shelf.held c.args.shelf.now) (g.S.Shelf.held c.answer_words-outcome.new.shelf)
    (Rose (g.S.Shelf.read_faults c.args.shelf.now) (g.S.Shelf.read_faults c.answer_words-outcome.new.shelf))
    (Rose (g.S.Shelf.write_faults c.args.shelf.now) (g.S.Shelf.write_faults c.answer_words-outcome.new.shelf))
    (record { faults = g.O.Sink.faults c.args.out.now; denials = g.O.Sink.denials c.args.out.now })
    (record { faults = g.O.Sink.faults c.say.new.out; denials = g.O.Sink.denials c.say.new.out })
    c.say.result c.say.ensures.says.0
end_of g c = ends (form (words_of c.args.words.now))
    (Rose (g.S.Shelf.read_faults c.args.shelf.now) (g.S.Shelf.read_faults c.answer_words-outcome.new.shelf))
    (Rose (g.S.Shelf.absences c.args.shelf.now) (g.S.Shelf.absences c.answer_words-outcome.new.shelf))
    (Rose (g.S.Shelf.write_faults c.args.shelf.now) (g.S.Shelf.write_faults c.answer_words-outcome.new.shelf))
    (Rose (g.S.Shelf.denials c.args.shelf.now) (g.S.Shelf.denials c.answer_words-outcome.new.shelf))
    (record { faults = g.O.Sink.faults c.args.out.now; denials = g.O.Sink.denials c.args.out.now })
    (record { faults = g.O.Sink.faults c.say.new.out; denials = g.O.Sink.denials c.say.new.out })
    (text_of c.answer_words-outcome.result) c.say.ensures.says.0 (status_of c.answer_words-outcome.result) c.say.result
    (g.S.Shelf.held c.args.shelf.now) (g.S.Shelf.held c.answer_words-outcome.new.shelf) c.answer_words-outcome.ensures.answers c.say.ensures.says.2

pub returns-clause-missing_always : goal.returns-clause-missing_always
returns-clause-missing_always g c = (end_of g c).missing_always

pub returns-clause-refused_always : goal.returns-clause-refused_always
returns-clause-refused_always g c = (end_of g c).refused_always

pub returns-clause-sink_fault : goal.returns-clause-sink_fault
returns-clause-sink_fault g c = (end_of g c).sink_fault

pub returns-clause-printed : goal.returns-clause-printed
returns-clause-printed g c = (c.say.ensures.says.0, c.say.ensures.says.1, (end_of g c).printed)
