use Rattle.std.proofs.Common.{map, sym, ap, Err}
use Rattle.expr_tree.specs.Plain.{expr_of}
use Rattle.group77.specs.Symbol.{grammar_symbol}
use Rattle.expr77.proofs.ExpressionLaw.{none_built}
use Rattle.expr77.proofs.parsing.tree_of.Goals as goal

pub returns-in-Ok : goal.returns-in-Ok
returns-in-Ok c = sym (c.grouped_expressions.ensures.only (map grammar_symbol c.args.symbols) (expr_of c.in-Ok.tree) c.in-Ok.ensures.found)

pub returns-in-Err-NotSpelled : goal.returns-in-Err-NotSpelled
returns-in-Err-NotSpelled c = sym (none_built c.grouped_expressions.ensures.found (map grammar_symbol c.args.symbols) (c.in-Err-NotSpelled.ensures.none (ap Err c.in-Err-NotSpelled.field-0-is)))
