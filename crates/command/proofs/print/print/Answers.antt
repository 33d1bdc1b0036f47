use Rattle.std.proofs.Common.{◌++◌, ◌∙◌, take, arith}
use Rattle.std.proofs.lemmas.Grind.{common_steps}
use Rattle.command.proofs.PrintLemmas.{split_more, wrote_more}
use Rattle.command.proofs.print.print.Goals as goal

pub loop-rest-preserved : goal.loop-rest-preserved
loop-rest-preserved g c =
    let so_far = c.loop-rest.invariant in
    let count = c.in_ok-count.count in
    let split = split_more c.args.text.now so_far.part c.loop-rest.rest.now count so_far.split in
    record {
      part = so_far.part ++ take count c.loop-rest.rest.now;
      split = grind (arith, common_steps, split);
      wrote = wrote_more _ _ _ so_far.part (take count c.loop-rest.rest.now) so_far.wrote c.in_ok-count.ensures.appends;
      count = omega (arith, so_far.count, c.in_ok-count.ensures.count);
      denial_count = omega (arith, so_far.denial_count, c.in_ok-count.ensures.denial_count);
      reliable = λ ok. let before = so_far.reliable ok in let now = c.in_ok-count.ensures.reliable before.0 in (now.0, now.1 ∙ before.1);
    }
