use Rattle.std.proofs.Common.{rules, ◌≡◌, Some, sym}
use Rattle.scan77.specs.Token.{tokens_of}
use Rattle.expr77.specs.LexemeReading.{read_lexeme}
use Rattle.expr77.specs.Views.{lexeme_of, stand_of, gathered_of}
use Rattle.expr77.proofs.GatherLaw.{read_one_more}
use Rattle.expr77.proofs.gathering.Reading.next.Goals as goal

pub returns-clause-read : goal.returns-clause-read
returns-clause-read c = λ n.
    let read : read_lexeme (stand_of c.args.self.now.stand) (tokens_of c.args.self.now.rest.now) ≡ Some (lexeme_of c.in-Some.lexeme, tokens_of c.in-Some.rest.now) = search rules in
    let step = read_one_more (gathered_of c.args.self.now.gathered) c.args.self.now.depth n (stand_of c.args.self.now.stand) (tokens_of c.args.self.now.rest.now) (tokens_of c.in-Some.rest.now) (lexeme_of c.in-Some.lexeme) read in
    rw (c.in_ok-push.ensures.gathered, c.in_ok-push.ensures.depth, c.in_ok-push.ensures.stand, c.in_ok-push.ensures.rest) (sym step)
