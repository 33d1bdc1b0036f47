-- An item of the code stands for one statement of the plain list.
use Rattle.std.proofs.Common.{◌≡◌, ℕ, List, ◌∷◌, refl, sym, ap, ◌∙◌, subst}
use Rattle.text_base.specs.declared.refusal.Place.{Place}
use Rattle.expr_tree.specs.declared.tree.Expr.{Expr}
use Rattle.program77.specs.Plain.{stmt_of, code_of, first_stmt}
use Rattle.program77.specs.Tree.{continue, item}
use Rattle.tree77.specs.StatementPlain.{simple_of}
use Rattle.tree77.specs.Statements as s
use Rattle.tree77.specs.declared.statement.Stmt77.{Stmt77}
use Rattle.unit77.specs.Running.{join}
use Rattle.unit77.specs.Tree.{Items}
use Rattle.unit77.specs.Views.{ArmPart, Placed, body_step, arm_step, item_step, body_of, item_of, arm_of, items_of}
use Rattle.unit77.specs.declared.tree.Arm77.{Arm77}
use Rattle.unit77.specs.declared.tree.Body77.{Body77, fold_out-Body77, map-Body77, out-Body77}
use Rattle.unit77.specs.declared.tree.Body77.TheOpen.{Body77-F}
use Rattle.unit77.specs.declared.tree.Body77.TheVariants as v
use Rattle.unit77.specs.declared.tree.DoHead.{DoHead}
use Rattle.unit77.specs.declared.tree.EndIf.{EndIf}
use Rattle.unit77.specs.declared.tree.Item77.{Item77, out-Item77}
use Rattle.unit77.proofs.Plains.{item_is, body_simple, body_guarded, body_loop, body_block}

-- a list of one item, which is one statement before others
record IsOne (is : Items) : Type 0 where
  label : ℕ
  here : Place
  code : (more : Items) → code_of (join is more) ≡ item label here (first_stmt is) (code_of more)

body_out : (b : Body77) → body_of b ≡ body_step (map-Body77 Body77 Arm77 Item77 Placed ArmPart Items body_of arm_of item_of (out-Body77 b))
unfolding body_of arm_of item_of
body_out b = fold_out-Body77 Placed ArmPart Items body_step arm_step item_step b

layer_is_one : (x : Body77-F Placed ArmPart Items) (n l : ℕ) (p : Place) → IsOne (body_step x n l p)
layer_is_one (Body77-F.Simple a) n l p = record { label = l; here = p; code = λ more. refl }
layer_is_one (Body77-F.Guarded x a) n l p = record { label = l; here = p; code = λ more. refl }
layer_is_one (Body77-F.If arms e) n l p = record { label = _; here = _; code = λ more. refl }
layer_is_one (Body77-F.Do h is) n l p = record { label = l; here = p; code = λ more. refl }

item_is_one : (i : Item77) → IsOne (item_of i)
item_is_one i =
    let o = out-Item77 i in
    subst IsOne (sym (item_is i))
    (subst (λ (f : Placed). IsOne (f o.number o.label o.place)) (sym (body_out o.body))
    (layer_is_one (map-Body77 Body77 Arm77 Item77 Placed ArmPart Items body_of arm_of item_of (out-Body77 o.body)) o.number o.label o.place))

pub first_label : Item77 → ℕ
first_label i = (item_is_one i).label

pub first_place : Item77 → Place
first_place i = (item_is_one i).here

-- the first item of a list is its first statement
pub first_of_items : (i : Item77) (is : List Item77) → code_of (items_of (i ∷ is)) ≡ item (first_label i) (first_place i) (first_stmt (item_of i)) (code_of (items_of is))
unfolding first_label first_place
first_of_items i is = (item_is_one i).code (items_of is)

-- ---- the first statement of an item, by what the item is

pub ruleset bodies = (body_simple, body_guarded, body_loop, body_block)

first_by : (i : Item77) (b : Body77) → (out-Item77 i).body ≡ b → item_of i ≡ body_of b (out-Item77 i).number (out-Item77 i).label (out-Item77 i).place
first_by i b is = item_is i ∙ ap (λ x. body_of x (out-Item77 i).number (out-Item77 i).label (out-Item77 i).place) is

pub first_simple : (i : Item77) (a : Stmt77) → (out-Item77 i).body ≡ v.Simple a → first_stmt (item_of i) ≡ stmt_of (s.simple (simple_of a))
first_simple i a is = ap first_stmt (first_by i (v.Simple a) is ∙ body_simple a _ _ _)

pub first_guarded : (i : Item77) (x : Expr) (a : Stmt77) → (out-Item77 i).body ≡ v.Guarded x a → first_stmt (item_of i) ≡ continue
first_guarded i x a is = ap first_stmt (first_by i (v.Guarded x a) is ∙ body_guarded x a _ _ _)

pub first_block : (i : Item77) (arms : List Arm77) (e : EndIf) → (out-Item77 i).body ≡ v.If arms e → first_stmt (item_of i) ≡ continue
first_block i arms e is = ap first_stmt (first_by i (v.If arms e) is ∙ body_block arms e _ _ _)

pub first_loop : (i : Item77) (h : DoHead) (is : List Item77) → (out-Item77 i).body ≡ v.Do h is → first_stmt (item_of i) ≡ continue
first_loop i h is e = ap first_stmt (first_by i (v.Do h is) e ∙ body_loop h is _ _ _)

pub ruleset first_bodies = (first_simple, first_guarded, first_block, first_loop)
