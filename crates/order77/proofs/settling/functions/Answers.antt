use Rattle.std.proofs.Common.{◌≡◌, ◌+◌, [], ◌++◌, Bool, true, false, not, ◌&&◌, ◌||◌, Vec, Global, sym, ◌∙◌, ap}
use Rattle.order77.specs.Counts.{counts_as, counts_action, is_end}
use Rattle.order77.specs.NameSets.{names_in, with_names}
use Rattle.order77.specs.ReadViews.{reading_at, readings_from, readings_of}
use Rattle.order77.specs.Settling.{arrays_ahead, functions_behind, functions}
use Rattle.order77.proofs.SettlingLemmas.{all_behind, behind_start, behind_end, behind_next}
use Rattle.order77.proofs.settling.functions.Goals as goal
use Rattle.order77.proofs.settling.functions.Goals.{then-is_end+in_ok-push+in_ok-held-2, else-is_end+in_ok-push-2}

pub loop-i-init : goal.loop-i-init
loop-i-init c =
    ap (λ l. l ++ functions_behind false (names_in c.in_ok-held.held) (readings_of c.args.statements.now)) c.in_ok-flags.ensures.items
    ∙ behind_start (names_in c.in_ok-held.held) c.args.statements.now c.in_ok-held.ensures

pub loop-i-preserved : goal.loop-i-preserved
loop-i-preserved c = elim c.if-is_end.branch [
  | then-is_end+in_ok-push+in_ok-held-2 w ↦
      let ends : is_end (counts_as (reading_at 0 c.index-statements-i.result)) ≡ true = ap is_end (sym (c.counts_as-counts.ensures 0)) ∙ sym c.is_end.ensures ∙ w.if-is_end.true in
      behind_end c.loop-i.flags.items c.if-is_end.flags.items c.loop-i.is_executed c.if-is_end.is_executed (names_in c.loop-i.held) (names_in c.if-is_end.held)
      (functions (readings_of c.args.statements.now)) c.args.statements.now c.loop-i.i c.index-statements-i.result c.index-statements-i.is c.loop-i-test.true
      ends (ap (λ (f : Vec Bool Global). f.items) w.flags-is ∙ w.in_ok-push.ensures.items) w.is_executed-is
      (λ n. ap names_in w.held-is ∙ w.in_ok-held-2.ensures n ∙ ap (λ l. with_names [] (arrays_ahead (readings_from n l))) (all_behind c.args.statements.now (c.loop-i.i + 1))) c.loop-i.invariant
  | else-is_end+in_ok-push-2 w ↦
      let ends : is_end (counts_as (reading_at 0 c.index-statements-i.result)) ≡ false = ap is_end (sym (c.counts_as-counts.ensures 0)) ∙ sym c.is_end.ensures ∙ w.if-is_end.false in
      behind_next c.loop-i.flags.items c.if-is_end.flags.items c.loop-i.is_executed c.if-is_end.is_executed w.is_function-is_function.result (names_in c.loop-i.held) (names_in c.if-is_end.held)
      (functions (readings_of c.args.statements.now)) c.args.statements.now c.loop-i.i c.index-statements-i.result c.index-statements-i.is c.loop-i-test.true
      ends (ap (λ (f : Vec Bool Global). f.items) w.flags-is ∙ w.in_ok-push-2.ensures.items) (w.is_function-is_function.ensures 0)
      (w.is_executed-is ∙ w.executes-is_executed.ensures ∙ ap (λ k. c.loop-i.is_executed || (not w.is_function-is_function.result && counts_action k)) (c.counts_as-counts.ensures 0)) (ap names_in w.held-is) c.loop-i.invariant
]
