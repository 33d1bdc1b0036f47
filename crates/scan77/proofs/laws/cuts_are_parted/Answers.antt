use Rattle.std.proofs.Common.{◌∷◌, ◌++◌, refl}
use Rattle.text_base.specs.Pieces.{plain}
use Rattle.scan77.proofs.PartLaw.{parted_between, parted_at_mark, parted_in_run}
use Rattle.scan77.proofs.laws.cuts_are_parted.Goals as goal

pub returns-clause-tokens : goal.returns-clause-tokens
returns-clause-tokens c = parted_between

pub returns-clause-at_mark : goal.returns-clause-at_mark
returns-clause-at_mark c = λ before after m tokens marks cut. parted_at_mark (before ++ plain m ∷ after) before after m tokens marks refl cut

pub returns-clause-in_run : goal.returns-clause-in_run
returns-clause-in_run c = parted_in_run
