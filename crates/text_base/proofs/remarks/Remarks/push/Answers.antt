use Rattle.std.proofs.Common.{◌≡◌, ◌∷◌, ◌++◌, [], List, ap, sym, subst, ◌∙◌, rules, arith}
use Rattle.std.proofs.lemmas.Grind.{common_steps}
use Rattle.text_base.specs.Remarks.{Remark, remark_text, remarks_in}
use Rattle.text_base.proofs.RemarkLines.{IsKept, holds_one, holds_both}
use Rattle.text_base.proofs.remarks.Remarks.push.Goals as goal

pub invariant_of-self-else-is_err : goal.invariant_of-self-else-is_err
invariant_of-self-else-is_err c =
    let r : Remark = record { marked = c.args.marked; text = c.args.text.now } in
    let wrote : c.write_line-outcome.new.lines ≡ c.self.inside.lines ++ remark_text r = search rules in
    subst IsKept (sym wrote) (holds_both c.self.inside.lines (remark_text r) (r ∷ []) c.self.invariant (holds_one r c.requires)).kept

pub returns-else-is_err : goal.returns-else-is_err
returns-else-is_err c =
    let r : Remark = record { marked = c.args.marked; text = c.args.text.now } in
    let wrote : c.write_line-outcome.new.lines ≡ c.self.inside.lines ++ remark_text r = search rules in
    let read : remarks_in c.write_line-outcome.new.lines ≡ c.args.self.now ++ r ∷ [] =
    ap remarks_in wrote
    ∙ (holds_both c.self.inside.lines (remark_text r) (r ∷ []) c.self.invariant (holds_one r c.requires)).read
    ∙ ap (λ (rs : List Remark). rs ++ r ∷ []) c.self.view_is in
    grind (arith, common_steps)
