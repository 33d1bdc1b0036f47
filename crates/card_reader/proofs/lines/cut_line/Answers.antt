use Rattle.card_reader.proofs.Cutting.{cut_first, before_feed}
use Rattle.card_reader.proofs.lines.cut_line.Goals as goal

pub returns-clause-line : goal.returns-clause-line
returns-clause-line c = λ some. let known = cut_first c.args.rest.now some in rw (c.first.ensures, c.behind-2.ensures, c.behind.ensures, c.length_of_line-count.ensures) known

pub returns-clause-feedless : goal.returns-clause-feedless
returns-clause-feedless c = rw (c.first.ensures, c.length_of_line-count.ensures) (before_feed c.args.rest.now)
