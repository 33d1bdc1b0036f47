use Rattle.unit77.proofs.Given.{are_lines, program_of_lines}
use Rattle.unit77.proofs.units.nest_units.Goals as goal

pub built-requires : goal.built-requires
built-requires c =
    let are = are_lines c.args.statements.items c.requires.read c.requires.accepted in
    record { room = c.requires.room; read = are.read; accepted = are.accepted }

pub returns : goal.returns
returns c =
    program_of_lines c.args.statements.items _ (are_lines c.args.statements.items c.requires.read c.requires.accepted) c.in_ok-units.ensures
