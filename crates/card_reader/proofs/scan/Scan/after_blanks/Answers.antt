use Rattle.card_reader.specs.Scan.{scan_of}
use Rattle.card_reader.proofs.Blanks.{blanks_outside, blanks_inside}
use Rattle.card_reader.proofs.scan.Scan.after_blanks.Goals as goal

pub returns-then-self : goal.returns-then-self
returns-then-self c = blanks_inside c.args.count (scan_of c.args.self) c.if-self.true

pub returns-else-self : goal.returns-else-self
returns-else-self c = blanks_outside c.args.count (scan_of c.args.self) c.saturating_sub-left.result c.if-self.false c.saturating_sub-left.ensures
