use Rattle.std.proofs.Common.{◌≡◌, ◌∙◌, sym, map, false, arith}
use Rattle.std.proofs.lemmas.Grind.{common_steps}
use Rattle.expr_tree.specs.Plain.{expr_of}
use Rattle.expr_tree.proofs.Equations.{expr_equations}
use Rattle.group77.specs.Building.{is_bare}
use Rattle.group77.specs.Symbol.{grammar_symbol}
use Rattle.group77.proofs.opening.closed_list.Goals as goal

pub returns : goal.returns
returns c =
    let some : is_bare (map expr_of c.args.arguments) (map grammar_symbol c.args.symbols) ≡ false = sym c.is_bare.ensures ∙ c.if-is_bare.false in
    rw some (grind (arith, common_steps, expr_equations))
