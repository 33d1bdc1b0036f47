use Rattle.std.proofs.Common.{◌≡◌, false, ◌||◌, ap, sym, ◌∙◌}
use Rattle.order77.specs.Counts.{counts_as, is_misplaced}
use Rattle.order77.specs.Names.{constants, within}
use Rattle.order77.specs.NameSets.{names_in}
use Rattle.order77.specs.ReadViews.{reading_at}
use Rattle.unit77.specs.Units.{is_late, uses_among}
use Rattle.unit77.proofs.Passing.{late_same}
use Rattle.unit77.proofs.check.Pass.is_out_of_order.Goals as goal

pub returns-else-is_misplaced : goal.returns-else-is_misplaced
returns-else-is_misplaced c n before noted counts =
    let r = reading_at n c.args.read.now in
    let placed : is_misplaced before (counts_as r) ≡ false = ap (is_misplaced before) counts ∙ sym (c.is_misplaced.ensures before noted.standing) ∙ c.if-is_misplaced.false in
    c.is_late.ensures ∙ late_same (names_in c.args.self.now.used) (uses_among before) (within constants r) noted.used ∙ sym (ap (λ b. b || is_late (uses_among before) r) placed)
