use Rattle.std.proofs.Common.{◌&&◌, ◌+◌, drop, sym, ◌∙◌, ap}
use Rattle.order77.proofs.SettlingLemmas.{all_names, names_next}
use Rattle.order77.proofs.settling.are_names.Goals as goal

pub returns-then-not-is_name : goal.returns-then-not-is_name
returns-then-not-is_name c =
    ap (λ b. b && all_names (drop (c.loop-expr.expr-index + 1) c.args.exprs.now)) (sym c.if-not-is_name.true)
    ∙ names_next c.args.exprs.now c.loop-expr.expr-index c.expr-item.result c.is_name.result (all_names c.args.exprs.now) c.expr-item.is c.loop-expr-test.true c.is_name.ensures c.loop-expr.invariant

pub loop-expr-preserved : goal.loop-expr-preserved
loop-expr-preserved c =
    ap (λ b. b && all_names (drop (c.loop-expr.expr-index + 1) c.args.exprs.now)) (sym c.if-not-is_name.false)
    ∙ names_next c.args.exprs.now c.loop-expr.expr-index c.expr-item.result c.is_name.result (all_names c.args.exprs.now) c.expr-item.is c.loop-expr-test.true c.is_name.ensures c.loop-expr.invariant
