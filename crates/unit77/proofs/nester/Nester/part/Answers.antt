use Rattle.std.proofs.Common.{[], ◌∷◌, ◌++◌, false, ap, ◌∙◌}
use Rattle.std.proofs.lemmas.Result.{on_ok_weaker}
use Rattle.unit77.specs.Running.{state, parted}
use Rattle.unit77.specs.Views.{line, arm_statement, items_of, stack_of}
use Rattle.unit77.specs.declared.nester.Construct.TheVariants.{If}
use Rattle.unit77.proofs.Plains.{arm_parted}
use Rattle.unit77.proofs.nester.Nester.part.Goals as goal

pub returns : goal.returns
returns c =
    let o = c.in-Some.field-0 in
    on_ok_weaker c.push-2.result (λ now.
    ap (λ is. state (items_of is) (stack_of c.push-2.new.self)) (c.replace-items.ensures.after ∙ c.new.ensures)
    ∙ arm_parted c.pop.new.self c.args.self.now.open c.push-2.new.self o c.in-If.arms c.in-If.here c.args.at c.in-If.last c.args.test c.arm.result (items_of c.replace-items.result)
    c.in-Some.ensures c.in-If.is c.arm.ensures (now ∙ ap (λ x. c.pop.new.self ++ record { before = o.before; at = o.at; construct = If x c.args.at c.args.test } ∷ []) c.in_ok-push.ensures.ok)
    ∙ ap (λ x. parted (line c.args.at.number c.args.at.label c.args.at.place (arm_statement false c.args.test)) (items_of x) (stack_of c.args.self.now.open)) c.replace-items.ensures.value)
    c.push-2.ensures.ok
