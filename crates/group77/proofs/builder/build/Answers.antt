use Rattle.std.proofs.Common.{map}
use Rattle.group77.specs.Symbol.{grammar_symbol}
use Rattle.group77.proofs.BuildLaw.{found, none}
use Rattle.group77.proofs.builder.build.Goals as goal

pub returns-clause-found : goal.returns-clause-found
returns-clause-found c = found (map grammar_symbol c.args.symbols) c.build_all.result c.build_all.ensures

pub returns-clause-none : goal.returns-clause-none
returns-clause-none c = none (map grammar_symbol c.args.symbols) c.build_all.result c.build_all.ensures
