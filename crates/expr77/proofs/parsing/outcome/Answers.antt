use Rattle.std.proofs.Common.{rules, ◌≡◌, Some, None, take, flat_map, ap}
use Rattle.text_base.specs.declared.limits.TheConstants.{MOST_SHOWN}
use Rattle.text_base.specs.declared.refusal.Cause.TheVariants.{NotAStatement}
use Rattle.expr_tree.specs.Plain.{expr_of}
use Rattle.scan77.specs.Token.{tokens_of}
use Rattle.expr77.specs.Outcome.{expression_of, outcome_from}
use Rattle.expr77.specs.Views.{plain_part}
use Rattle.expr77.proofs.parsing.outcome.Goals as goal

pub returns-in_default : goal.returns-in_default
returns-in_default c =
    let none : expression_of 0 None (tokens_of c.args.tokens.now) ≡ None = search rules in
    (record { cause = NotAStatement; shown = take MOST_SHOWN (flat_map (λ t. t.text) (tokens_of c.args.tokens.now)) }, c.in_ok-not_spelled.ensures, ap (outcome_from (tokens_of c.args.tokens.now)) none)

pub returns-in_ok-part_refused-in-Some-lowest : goal.returns-in_ok-part_refused-in-Some-lowest
returns-in_ok-part_refused-in-Some-lowest c =
    let some : expression_of 0 None (tokens_of c.args.tokens.now) ≡ Some (expr_of c.in-Some.tree, Some (plain_part c.in-Some-lowest.part)) = search rules in
    (plain_part c.in-Some-lowest.part, c.in_ok-part_refused-in-Some-lowest.ensures, ap (outcome_from (tokens_of c.args.tokens.now)) some)
