use Rattle.std.proofs.Common.{Some, None, refl}
use Rattle.tree77.specs.Tokens.{IsCut, IsStuck}
use Rattle.scan77.specs.TokenReading.{read_tokens, no_token}
use Rattle.worked_examples.specs.KeptText.{cuts, uncut}
use Rattle.worked_examples.proofs.Rows.{each_row, each_given}
use Rattle.worked_examples.proofs.keeping.tokens_of_pieces.Goals as goal

pub returns : goal.returns
returns c = record {
  some = each_row IsCut (λ pieces. read_tokens pieces no_token) Some c.one_cut.ensures.found cuts refl;
  none = each_given IsStuck (λ pieces. read_tokens pieces no_token) None c.one_cut.ensures.stuck uncut refl;
}
