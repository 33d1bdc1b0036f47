use Rattle.std.proofs.Common.{true, false, subst}
use Rattle.text_base.specs.Kept.{is_format}
use Rattle.text_base.specs.Pieces.{IsPieces}
use Rattle.worked_examples.specs.KeptText.{format_text, constant_text, unlabelled_text, open_text}
use Rattle.worked_examples.proofs.LazyPieces.{lazily_cut}
use Rattle.worked_examples.proofs.keeping.kept_pieces.Goals as goal

pub returns : goal.returns
returns c =
    let found = c.one_list_of_pieces.ensures.found in
    record {
      format = subst (IsPieces true format_text) (lazily_cut 10 format_text) (found 10 format_text);
      constant = subst (IsPieces false constant_text) (lazily_cut 0 constant_text) (found 0 constant_text);
      unlabelled = subst (IsPieces (is_format 0 unlabelled_text) unlabelled_text) (lazily_cut 0 unlabelled_text) (found 0 unlabelled_text);
      unclosed = subst (IsPieces false open_text) (lazily_cut 0 open_text) (found 0 open_text);
    }
