use Rattle.card_reader.proofs.Cutting.{place_or_length}
use Rattle.card_reader.proofs.lines.length_of_line.Goals as goal

pub returns : goal.returns
returns c = let known = place_or_length c.args.bytes.now in cc
