-- The equations of the link of expressions, at each variant.
use Rattle.std.proofs.Common.{◌≡◌, ℕ, ℤ, List, map, Option, Some, None, sym, ap, ◌∙◌}
use Rattle.std.specs.Prelude.{Bool}
use Rattle.std.specs.Option.{option_map}
use Rattle.text_base.specs.Trees as t
use Rattle.expr_tree.specs.Plain.{unary_of, binary_of, exprs_of, bound_of, expr_step, expr_of}
use Rattle.expr_tree.specs.declared.tree.UnaryOp.{UnaryOp}
use Rattle.expr_tree.specs.declared.tree.BinaryOp.{BinaryOp}
use Rattle.expr_tree.specs.declared.tree.Expr.{Expr, fold-roll-Expr, map-Expr, roll-Expr}
use Rattle.expr_tree.specs.declared.tree.Expr.TheOpen.{Expr-F}
use Rattle.expr_tree.specs.declared.tree.Expr.TheVariants as v

expr_roll : (x : Expr-F Expr) → expr_of (roll-Expr x) ≡ expr_step (map-Expr Expr t.Expr expr_of x)
unfolding expr_of
expr_roll x = fold-roll-Expr t.Expr expr_step x

pub expr_int : (n : ℤ) → expr_of (v.Int n) ≡ t.int n
expr_int n = ap expr_of (sym (v.rolls-Int n)) ∙ expr_roll (Expr-F.Int n)

pub expr_bool : (b : Bool) → expr_of (v.Bool b) ≡ t.bool b
expr_bool b = ap expr_of (sym (v.rolls-Bool b)) ∙ expr_roll (Expr-F.Bool b)

pub expr_text : (cs : List ℕ) → expr_of (v.Text cs) ≡ t.text cs
expr_text cs = ap expr_of (sym (v.rolls-Text cs)) ∙ expr_roll (Expr-F.Text cs)

pub expr_name : (x : List ℕ) → expr_of (v.Name x) ≡ t.name x
expr_name x = ap expr_of (sym (v.rolls-Name x)) ∙ expr_roll (Expr-F.Name x)

pub expr_call : (f : List ℕ) (xs : List Expr) → expr_of (v.Call f xs) ≡ t.call f (exprs_of (map expr_of xs))
expr_call f xs = ap expr_of (sym (v.rolls-Call f xs)) ∙ expr_roll (Expr-F.Call f xs)

pub expr_substring : (a : Expr) (from to : Option Expr) → expr_of (v.Substring a from to) ≡ t.substring (expr_of a) (bound_of (option_map expr_of from)) (bound_of (option_map expr_of to))
expr_substring a None None = ap expr_of (sym (v.rolls-Substring a None None)) ∙ expr_roll (Expr-F.Substring a None None)
expr_substring a None (Some y) = ap expr_of (sym (v.rolls-Substring a None (Some y))) ∙ expr_roll (Expr-F.Substring a None (Some y))
expr_substring a (Some x) None = ap expr_of (sym (v.rolls-Substring a (Some x) None)) ∙ expr_roll (Expr-F.Substring a (Some x) None)
expr_substring a (Some x) (Some y) = ap expr_of (sym (v.rolls-Substring a (Some x) (Some y))) ∙ expr_roll (Expr-F.Substring a (Some x) (Some y))

pub expr_unary : (op : UnaryOp) (a : Expr) → expr_of (v.Unary op a) ≡ t.unary (unary_of op) (expr_of a)
expr_unary op a = ap expr_of (sym (v.rolls-Unary op a)) ∙ expr_roll (Expr-F.Unary op a)

pub expr_binary : (op : BinaryOp) (a b : Expr) → expr_of (v.Binary op a b) ≡ t.binary (binary_of op) (expr_of a) (expr_of b)
expr_binary op a b = ap expr_of (sym (v.rolls-Binary op a b)) ∙ expr_roll (Expr-F.Binary op a b)

pub expr_paren : (a : Expr) → expr_of (v.Paren a) ≡ t.paren (expr_of a)
expr_paren a = ap expr_of (sym (v.rolls-Paren a)) ∙ expr_roll (Expr-F.Paren a)

pub ruleset expr_equations = (expr_int, expr_bool, expr_text, expr_name, expr_call, expr_substring, expr_unary, expr_binary, expr_paren)
