use Rattle.std.proofs.Common.{◌≡◌, map, fold, take}
use Rattle.tree77.specs.StatementPlain.{equation_of}
use Rattle.names77.specs.Constants.{with_equation}
use Rattle.names77.specs.Views.{shown_table, shown_initial, shown_constants}
use Rattle.names77.proofs.constants.add_equations.Given as goal

abbrev pub invariant-loop-equation : goal.invariant-loop-equation
invariant-loop-equation l =
    shown_constants l.constants
    ≡ fold (with_equation (shown_table l.types.table.now) (map shown_initial l.types.all.now) (map shown_initial l.types.early.now)) (shown_constants l.fn.constants) (map equation_of (take l.equation-index l.equations))
