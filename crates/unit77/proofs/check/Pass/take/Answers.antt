use Rattle.std.proofs.Common.{◌≡◌, refl, sym, ap, ◌∙◌}
use Rattle.order77.specs.Counts.{counts_as, is_end, sort_in}
use Rattle.order77.specs.ReadViews.{reading_at}
use Rattle.unit77.proofs.Passing.{taken_open, taken_strays}
use Rattle.unit77.proofs.check.Pass.take.Goals as goal

pub returns-clause-strays : goal.returns-clause-strays
returns-clause-strays c before pass not_end =
    let r = reading_at c.args.number c.args.read.now in
    let counts : counts_as r ≡ c.counts_as-counts.result = sym (c.counts_as-counts.ensures c.args.number) in
    taken_strays before r c.args.self.now.checker c.refuse.new.checker c.note.new.self.checker c.nest.new.checker c.is_out_of_order-is_wrong.result c.sort_in.result pass.open_ (c.sort_in.ensures ∙ ap sort_in (sym counts))
    (c.is_out_of_order-is_wrong.ensures c.args.number before pass.noted counts) c.in_ok-refuse.ensures.others c.in_ok-refuse.ensures.strays c.in_ok-note.ensures.others (c.in_ok-nest.ensures.strays r refl refl)

pub returns-clause-pass : goal.returns-clause-pass
returns-clause-pass c before pass not_end =
    let r = reading_at c.args.number c.args.read.now in
    let counts : counts_as r ≡ c.counts_as-counts.result = sym (c.counts_as-counts.ensures c.args.number) in
    let noted = c.in_ok-note.ensures.noted c.args.number before (record { standing = pass.noted.standing; used = pass.noted.used; targets = pass.noted.targets }) counts (ap is_end (sym counts) ∙ not_end) in
    record {
      noted = record { standing = noted.standing; used = noted.used; targets = noted.targets };
      open_ = taken_open before r c.args.self.now.checker c.refuse.new.checker c.note.new.self.checker c.nest.new.checker c.sort_in.result pass.open_ (c.sort_in.ensures ∙ ap sort_in (sym counts)) c.in_ok-refuse.ensures.others
          c.in_ok-note.ensures.others (c.in_ok-nest.ensures.«open» r refl refl);
    }
