-- What is built from symbols is the one expression that they are.
use Rattle.std.proofs.Common.{◌≡◌, List, Some, None, sym, ◌∙◌, Result, Ok, Err}
use Rattle.std.specs.Prelude.{IfOk}
use Rattle.std.proofs.lemmas.Option.{same_Some}
use Rattle.text_base.specs.Trees as tree
use Rattle.expr_tree.specs.Plain.{expr_of}
use Rattle.expr_tree.specs.declared.tree.Expr.{Expr}
use Rattle.tree77.specs.Expressions.{Symbol, IsExpression}
use Rattle.group77.specs.Building.{build}
use Rattle.group77.specs.Symbol.{Gives}
use Rattle.group77.specs.declared.build_error.BuildError.{BuildError}
use Rattle.group77.specs.declared.build_error.BuildError.TheVariants as build_error
use Rattle.group77.proofs.BuildSound.{built_is}
use Rattle.group77.proofs.BuildComplete.{expression_built}

pub found : (t : List Symbol) (r : Result Expr BuildError) → Gives r (build t) → IfOk r (λ x. IsExpression t (expr_of x))
found t (Ok x) h = built_is t (expr_of x) h
found t (Err e) h = tt

pub none : (t : List Symbol) (r : Result Expr BuildError) → Gives r (build t) → r ≡ Err build_error.NotSpelled → (x : tree.Expr) → IsExpression t x → ⊥
none t (Err build_error.NotSpelled) h e x d = let built : None ≡ Some x = sym h ∙ expression_built t x d in absurd cc
none t (Err build_error.Memory) h e x d = absurd cc
none t (Ok y) h e x d = absurd cc

pub one : (t : List Symbol) (x y : tree.Expr) → IsExpression t x → IsExpression t y → x ≡ y
one t x y d e = same_Some _ _ (sym (expression_built t x d) ∙ expression_built t y e)
