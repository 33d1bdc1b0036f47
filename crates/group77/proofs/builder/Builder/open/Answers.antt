use Rattle.std.proofs.Common.{◌≡◌, true, map, rules, arith}
use Rattle.group77.specs.Building.{is_after}
use Rattle.group77.specs.Symbol.{grammar_symbol}
use Rattle.group77.specs.BuilderViews.{level_of}
use Rattle.group77.proofs.BuilderSteps.{opens_behind}
use Rattle.group77.proofs.builder.Builder.open.Goals as goal

pub returns-in_err-of : goal.returns-in_err-of
returns-in_err-of c =
    let after : is_after (map grammar_symbol c.args.self.symbols) ≡ true = grind arith in
    let opens = opens_behind c.args.self.is_element (map level_of c.args.self.levels) c.args.self.symbols c.pop.new.self c.in-Some.last c.in-Some.ensures after in
    rw opens (search rules)

pub returns : goal.returns
returns c =
    let after : is_after (map grammar_symbol c.args.self.symbols) ≡ true = grind arith in
    let opens = opens_behind c.args.self.is_element (map level_of c.args.self.levels) c.args.self.symbols c.pop.new.self c.in-Some.last c.in-Some.ensures after in
    rw opens (search rules)
