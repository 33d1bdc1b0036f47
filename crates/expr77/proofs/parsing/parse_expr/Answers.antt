use Rattle.scan77.specs.Token.{tokens_of}
use Rattle.expr77.proofs.Parsed.{parsed, parsed_tree, parsed_part}
use Rattle.expr77.proofs.parsing.parse_expr.Goals as goal

pub returns-clause-found : goal.returns-clause-found
returns-clause-found c = parsed c.outcomes_are_spelled.ensures.accepted c.outcomes_are_spelled.ensures.refused c.args.place (tokens_of c.args.tokens.now) c.outcome.result c.outcome.ensures

pub returns-clause-spelled : goal.returns-clause-spelled
returns-clause-spelled c = λ pieces x cut.
    parsed_tree c.one_expression.ensures.spelled c.one_expression.ensures.apart c.args.place c.outcome.result pieces x
    (parsed c.outcomes_are_spelled.ensures.accepted c.outcomes_are_spelled.ensures.refused c.args.place (tokens_of c.args.tokens.now) c.outcome.result c.outcome.ensures pieces cut)

pub returns-clause-refused : goal.returns-clause-refused
returns-clause-refused c = λ pieces p cut.
    parsed_part c.one_expression.ensures.refused c.one_expression.ensures.apart c.args.place c.outcome.result pieces p
    (parsed c.outcomes_are_spelled.ensures.accepted c.outcomes_are_spelled.ensures.refused c.args.place (tokens_of c.args.tokens.now) c.outcome.result c.outcome.ensures pieces cut)
