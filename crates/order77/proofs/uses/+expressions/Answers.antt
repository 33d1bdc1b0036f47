use Rattle.std.proofs.Common.{List, map}
use Rattle.text_base.specs.Names.{expr_names, exprs_names}
use Rattle.expr_tree.specs.Plain.{expr_of, exprs_of}
use Rattle.expr_tree.specs.declared.tree.Expr.{Expr}
use Rattle.order77.proofs.UseLemmas.{exprs_more, grown}
use Rattle.order77.proofs.uses.+expressions.Goals as goal

pub exprs_uses-loop-expr-preserved : goal.exprs_uses-loop-expr-preserved
exprs_uses-loop-expr-preserved t c =
    grown (λ (xs : List Expr). exprs_names (exprs_of (map expr_of xs))) (λ (x : Expr). expr_names (expr_of x)) exprs_more
    c.args.exprs.now c.loop-expr.expr-index c.expr-item.result _ _ _ c.expr-item.is c.loop-expr-test.true c.loop-expr.invariant c.in_ok-expr_uses.ensures
