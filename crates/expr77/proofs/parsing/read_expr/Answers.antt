use Rattle.std.proofs.Common.{rules, ◌≡◌, Some, None}
use Rattle.std.specs.Option.{option_map}
use Rattle.expr_tree.specs.Plain.{expr_of}
use Rattle.scan77.specs.Token.{tokens_of}
use Rattle.expr77.specs.Outcome.{expression_of}
use Rattle.expr77.specs.Views.{plain_part}
use Rattle.expr77.proofs.ExpressionLaw.{read_found, read_none}
use Rattle.expr77.proofs.parsing.read_expr.Goals as goal

pub returns-in_default-clause-none : goal.returns-in_default-clause-none
returns-in_default-clause-none c = λ pieces cut is.
    let none : expression_of c.args.progress.now.depth (option_map plain_part c.args.progress.now.lowest) (tokens_of c.args.tokens.now) ≡ None = search rules in
    read_none c.one_cut.ensures.only c.grouped_expressions.ensures.only c.args.progress.now.depth (option_map plain_part c.args.progress.now.lowest) pieces (tokens_of c.args.tokens.now) cut none

pub returns-clause-found : goal.returns-clause-found
returns-clause-found c = λ pieces cut.
    let found : expression_of c.args.progress.now.depth (option_map plain_part c.args.progress.now.lowest) (tokens_of c.args.tokens.now) ≡ Some (expr_of c.in-Some.tree, option_map plain_part c.in-Some.lowest) = search rules in
    read_found c.one_cut.ensures.pieces c.one_cut.ensures.formed c.grouped_expressions.ensures.found c.args.progress.now.depth (option_map plain_part c.args.progress.now.lowest) (option_map plain_part c.in-Some.lowest) pieces (tokens_of c.args.tokens.now) (expr_of c.in-Some.tree) cut found
