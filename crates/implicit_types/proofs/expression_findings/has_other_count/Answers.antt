use Rattle.names77.specs.Views.{shown_known}
use Rattle.implicit_types.proofs.FindingLemmas.{other_count}
use Rattle.implicit_types.proofs.expression_findings.has_other_count.Goals as goal

pub returns-in-Some : goal.returns-in-Some
returns-in-Some c = other_count (shown_known c.args.known.now) c.args.name.now c.args.subscripts.now c.row.result c.in-Some.dimensions c.row.ensures c.in-Some.is
