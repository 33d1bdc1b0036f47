use Rattle.std.proofs.Common.{ap, ◌∙◌, ◌≡◌, ◌&&◌, not, nat_lt, arith}
use Rattle.std.proofs.lemmas.Result.{on_ok_weaker}
use Rattle.unit77.specs.Nesting.{named}
use Rattle.unit77.specs.Checking.{open_of}
use Rattle.unit77.proofs.Checking.{named_count, named_within, is_named, may_not, may, shut_open, shut_strays, shut_shown, shut_sound}
use Rattle.unit77.proofs.checker.Checker.end_loops.Goals as goal
use Rattle.unit77.proofs.checker.Checker.end_loops.Goals.{then-not-may_end, else-not-may_end}

pub overflow_sub-self : goal.overflow_sub-self
overflow_sub-self c = omega (arith, c.len.ensures, named_count c.args.mark.number c.args.mark.label c.args.self.now c.take-loops.result c.requires c.take-loops.ensures.found)

pub end_outer-requires : goal.end_outer-requires
end_outer-requires c = named_within c.args.mark.label c.end_inner.new.stack c.as_slice.result.now (c.as_slice.ensures ∙ c.in_ok-end_inner.ensures.loops)

pub returns-clause-open : goal.returns-clause-open
returns-clause-open c =
    on_ok_weaker c.end_outer.result (shut_open c.args.mark.label c.args.self.now.stack c.end_inner.new.stack c.end_outer.new.stack c.as_slice.result.now c.in_ok-end_inner.ensures.ended (c.as_slice.ensures ∙ c.in_ok-end_inner.ensures.loops)) c.end_outer.ensures.stack

pub returns-clause-strays : goal.returns-clause-strays
returns-clause-strays c =
    let there = is_named c.args.mark.number c.args.mark.label c.args.self.now c.take-loops.result c.requires c.take-loops.ensures.found in
    let is : c.if-not-may_end.is_wrong ≡ (not c.args.may_end && named c.args.mark.label (open_of c.args.self.now)) = elim c.if-not-may_end.branch [
      | then-not-may_end w ↦ may_not _ _ _ w.if-not-may_end.true (w.is_wrong-is ∙ ap (nat_lt 0) w.len-then-not-may_end.ensures ∙ there)
      | else-not-may_end w ↦ may _ _ _ w.if-not-may_end.false w.is_wrong-is
    ] in
    on_ok_weaker c.end_outer.result (λ now. shut_shown c.args.self.now.strays c.refuse_wrong.new.strays c.end_outer.new.strays c.if-not-may_end.is_wrong _ c.args.mark _ _ c.in_ok-refuse_wrong.ensures now is
    (shut_strays c.args.mark.label c.args.self.now.stack c.end_inner.new.stack c.as_slice.result.now c.in_ok-end_inner.ensures.ended c.in_ok-end_inner.ensures.others (c.as_slice.ensures ∙ c.in_ok-end_inner.ensures.loops)))
    c.end_outer.ensures.strays

pub returns-clause-sound : goal.returns-clause-sound
returns-clause-sound c =
    let all = named_count c.args.mark.number c.args.mark.label c.args.self.now c.take-loops.result c.requires c.take-loops.ensures.found in
    on_ok_weaker c.end_outer.result (λ now. shut_sound c.args.mark.number c.args.mark.label c.args.self.now _ c.end_inner.new.stack c.as_slice.result.now c.requires c.in_ok-end_inner.ensures.ended (c.as_slice.ensures ∙ c.in_ok-end_inner.ensures.loops) now
    c.take-loops.ensures.others (omega (arith, c.len.ensures, all)))
    c.end_outer.ensures.stack
