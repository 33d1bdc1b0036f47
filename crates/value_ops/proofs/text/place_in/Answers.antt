use Rattle.std.proofs.Common.{sym, ap, ◌∙◌, nat_eq, arith}
use Rattle.std.proofs.lemmas.List.{take_rest}
use Rattle.std.specs.List.{starts_with}
use Rattle.value_ops.proofs.Places.{nothing, here, later, nowhere}
use Rattle.value_ops.proofs.text.place_in.Goals as goal

pub returns-then-is_empty : goal.returns-then-is_empty
returns-then-is_empty c = nothing c.args.text.now c.args.part.now c.if-is_empty.ensures

pub returns-then-starts_with : goal.returns-then-starts_with
returns-then-starts_with c =
    let e = ap (λ t. starts_with nat_eq t c.args.part.now) (sym (take_rest c.args.text.now c.loop-start.start)) ∙ sym c.if-starts_with.ensures.value in
    sym (c.loop-start.invariant ∙ here c.args.text.now c.args.part.now c.loop-start.start e)

pub loop-start-preserved : goal.loop-start-preserved
loop-start-preserved c =
    let e = ap (λ t. starts_with nat_eq t c.args.part.now) (sym (take_rest c.args.text.now c.loop-start.start)) ∙ sym c.if-starts_with.ensures.value in
    c.loop-start.invariant ∙ later c.args.text.now c.args.part.now c.loop-start.start c.loop-start-test.true e

pub returns : goal.returns
returns c = sym (c.loop-start.invariant ∙ nowhere c.args.text.now c.args.part.now c.loop-start.start (omega arith) c.if-is_empty.ensures)
