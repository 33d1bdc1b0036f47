use Rattle.std.proofs.Common.{◌&&◌, not, sym, ap, ◌∙◌}
use Rattle.order77.specs.NameSets.{names_in}
use Rattle.order77.specs.ReadViews.{reading_at}
use Rattle.order77.specs.Settling.{is_text}
use Rattle.order77.proofs.settling.is_function.Goals as goal

pub returns-then-not-is_executed : goal.returns-then-not-is_executed
returns-then-not-is_executed c = λ n. c.is_text.ensures n ∙ ap (λ b. not b && is_text (names_in c.args.held.now) (reading_at n c.args.read.now)) (sym c.if-not-is_executed.true)
