-- The equations of the link of lists with implied DO lists, at each variant.
use Rattle.std.proofs.Common.{◌≡◌, List, map, sym, ap, ◌∙◌}
use Rattle.expr_tree.specs.Plain.{expr_of}
use Rattle.expr_tree.specs.declared.tree.Expr.{Expr}
use Rattle.tree77.specs.Statements as s
use Rattle.tree77.specs.Statements.{listeds_of}
use Rattle.tree77.specs.StatementPlain.{range_of, listed_step, listed_of}
use Rattle.tree77.specs.declared.statement.Range77.{Range77}
use Rattle.tree77.specs.declared.statement.Listed77.{Listed77, fold-roll-Listed77, map-Listed77, roll-Listed77}
use Rattle.tree77.specs.declared.statement.Listed77.TheOpen.{Listed77-F}
use Rattle.tree77.specs.declared.statement.Listed77.TheVariants as v

listed_roll : (x : Listed77-F Listed77) → listed_of (roll-Listed77 x) ≡ listed_step (map-Listed77 Listed77 s.Listed listed_of x)
unfolding listed_of
listed_roll x = fold-roll-Listed77 s.Listed listed_step x

pub listed_item : (e : Expr) → listed_of (v.Item e) ≡ s.item (expr_of e)
listed_item e = ap listed_of (sym (v.rolls-Item e)) ∙ listed_roll (Listed77-F.Item e)

pub listed_loop : (xs : List Listed77) (r : Range77) → listed_of (v.Loop xs r) ≡ s.loop (listeds_of (map listed_of xs)) (range_of r)
listed_loop xs r = ap listed_of (sym (v.rolls-Loop xs r)) ∙ listed_roll (Listed77-F.Loop xs r)

pub ruleset listed_equations = (listed_item, listed_loop)
