use Rattle.scan77.proofs.PieceShape.{next_unmarked}
use Rattle.scan77.proofs.outline.Outline.next.Goals as goal

pub returns-in-None-clause-first : goal.returns-in-None-clause-first
returns-in-None-clause-first c = next_unmarked c.in_ok-byte.byte.now c.in_ok-byte.text.now c.args.self.text.now c.args.self.marks.now c.in_ok-byte.ensures.cases.0 c.in-None.ensures.cases
