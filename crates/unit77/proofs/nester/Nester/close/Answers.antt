use Rattle.std.proofs.Common.{[], ◌∷◌, ◌++◌, ap, ◌∙◌}
use Rattle.std.proofs.lemmas.Result.{on_ok_weaker}
use Rattle.tree77.specs.Statements as s
use Rattle.unit77.specs.Running.{closed}
use Rattle.unit77.specs.Views.{line, body_of, items_of, stack_of}
use Rattle.unit77.specs.declared.tree.Body77.TheVariants.{If}
use Rattle.unit77.specs.declared.tree.EndIf.{EndIf}
use Rattle.unit77.proofs.Plains.{if_closed}
use Rattle.unit77.proofs.nester.Nester.close.Goals as goal

pub returns : goal.returns
returns c =
    let o = c.in-Some.field-0 in
    on_ok_weaker c.push-2.result (λ now.
    if_closed c.pop.new.self c.args.self.now.open o c.in-If.arms c.in-If.here c.in-If.last c.arm.result (items_of c.replace-items.result) c.end_if.result c.item.result c.push-2.new.self
    c.in-Some.ensures c.in-If.is c.arm.ensures (c.item.ensures ∙ ap (λ x. body_of (If x c.end_if.result) o.at.number o.at.label o.at.place) c.in_ok-push.ensures.ok) (now ∙ ap (λ x. x ++ c.item.result ∷ []) c.replace-items.ensures.after)
    ∙ ap (λ (e : EndIf). closed (line e.number e.label e.place s.end_if) (items_of c.replace-items.result) (stack_of c.args.self.now.open)) c.end_if.ensures
    ∙ ap (λ x. closed (line c.args.at.number c.args.at.label c.args.at.place s.end_if) (items_of x) (stack_of c.args.self.now.open)) c.replace-items.ensures.value)
    c.push-2.ensures.ok
