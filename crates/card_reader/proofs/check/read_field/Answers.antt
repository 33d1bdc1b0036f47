use Rattle.std.proofs.Common.{drop, Some, None, arith}
use Rattle.std.proofs.lemmas.List.{length-take}
use Rattle.card_reader.specs.Scan.{scan_of}
use Rattle.card_reader.proofs.Blanks.{field_bad, field_scanned}
use Rattle.card_reader.proofs.check.read_field.Goals as goal

pub overflow_sub-text : goal.overflow_sub-text
overflow_sub-text c = rw c.statement_text-text.ensures (omega (arith, length-take 66 (drop 6 c.args.line.now)))

pub returns-in-Ok-clause-good : goal.returns-in-Ok-clause-good
returns-in-Ok-clause-good c =
    let text = c.statement_text-text.ensures in
    let read = c.in-Ok.ensures.good in (
      field_bad (scan_of c.args.scan) c.args.line.now c.statement_text-text.result.now None text read.0,
      field_scanned (scan_of c.args.scan) (scan_of c.in-Ok.after) (scan_of c.after_blanks.result) c.args.line.now c.statement_text-text.result.now text read.1 c.after_blanks.ensures,
    )

pub returns-in-Err-clause-bad : goal.returns-in-Err-clause-bad
returns-in-Err-clause-bad c = field_bad (scan_of c.args.scan) c.args.line.now c.statement_text-text.result.now (Some c.in-Err.column) c.statement_text-text.ensures c.in-Err.ensures.bad
