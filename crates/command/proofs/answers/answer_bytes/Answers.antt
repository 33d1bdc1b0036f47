use Rattle.text_base.specs.Faults.{Rose}
use Rattle.command.specs.Views.{command_of, status_of, text_of}
use Rattle.command.proofs.AnswerLemmas.{partly_wrote, answered}
use Rattle.command.proofs.answers.answer_bytes.Goals as goal

pub returns-in-Ok-clause-partly : goal.returns-in-Ok-clause-partly
returns-in-Ok-clause-partly g c =
    let made = c.in-Ok.made in
    partly_wrote (command_of c.args.request.now) (g.S.Shelf.held c.args.shelf.now) (g.S.Shelf.held c.write_texts.new.shelf) c.args.bytes.now made.text made.map made.report
    c.requires.has c.in-Ok.ensures.converts c.write_texts.ensures.partly

pub returns-in-Ok-clause-answers : goal.returns-in-Ok-clause-answers
returns-in-Ok-clause-answers g c =
    let made = c.in-Ok.made in
    answered (status_of c.write_texts.result) (command_of c.args.request.now) (g.S.Shelf.held c.args.shelf.now) (g.S.Shelf.held c.write_texts.new.shelf) c.args.bytes.now made.text made.map made.report
    (Rose (g.S.Shelf.write_faults c.args.shelf.now) (g.S.Shelf.write_faults c.write_texts.new.shelf)) (Rose (g.S.Shelf.denials c.args.shelf.now) (g.S.Shelf.denials c.write_texts.new.shelf)) (text_of c.write_texts.result)
    c.requires.has c.in-Ok.ensures.converts c.in-Ok.ensures.headline c.write_texts.ensures.wrote
