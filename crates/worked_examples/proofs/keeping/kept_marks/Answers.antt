use Rattle.worked_examples.specs.KeptText.{format_text, constant_text}
use Rattle.worked_examples.proofs.keeping.kept_marks.Goals as goal

pub returns : goal.returns
returns c = record {
  format = c.kept_is_by_pieces.ensures.marked 10 format_text;
  constant = c.kept_is_by_pieces.ensures.marked 0 constant_text;
}
