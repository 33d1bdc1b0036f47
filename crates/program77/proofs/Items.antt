-- Which items are converted, at each item of the code.
use Rattle.std.proofs.Common.{◌≡◌, ℕ, Bool, true, false, List, [], ◌∷◌, refl, sym, ap, ◌∙◌}
use Rattle.std.specs.Prelude.{◌&&◌, ◌==◌}
use Rattle.std.specs.List.{list_all}
use Rattle.std.proofs.lemmas.Bool.{eqb-true}
use Rattle.expr_tree.specs.declared.tree.Expr.{Expr}
use Rattle.tree77.specs.StatementPlain.{simple_of}
use Rattle.tree77.specs.declared.statement.Stmt77.{Stmt77}
use Rattle.unit77.specs.Running.{join}
use Rattle.unit77.specs.Tree as u
use Rattle.unit77.specs.Tree.{Items}
use Rattle.unit77.specs.Views.{item_of, items_of, body_of}
use Rattle.unit77.specs.declared.tree.Arm77.{Arm77}
use Rattle.unit77.specs.declared.tree.Body77.{Body77}
use Rattle.unit77.specs.declared.tree.Body77.TheVariants as v
use Rattle.unit77.specs.declared.tree.DoHead.{DoHead}
use Rattle.unit77.specs.declared.tree.EndIf.{EndIf}
use Rattle.unit77.specs.declared.tree.Item77.{Item77, out-Item77}
use Rattle.unit77.proofs.Plains.{body_simple, body_guarded, body_loop, body_block, item_is}
use Rattle.program77.specs.Built.{built_simple}
use Rattle.program77.specs.Plain.{is_step, is_converted_line, are_converted}

and_true : (b : Bool) → (b && true) ≡ b
and_true true = refl
and_true false = refl

and_false : (b : Bool) → (b && false) ≡ false
and_false true = refl
and_false false = refl

and_assoc : (a b c : Bool) → ((a && b) && c) ≡ (a && (b && c))
and_assoc true b c = refl
and_assoc false b c = refl

module _ (i : Item77) where
  abbrev with_body : Body77 → Items
  with_body b = body_of b (out-Item77 i).number (out-Item77 i).label (out-Item77 i).place

  pub converted_simple : (a : Stmt77) → (out-Item77 i).body ≡ v.Simple a → are_converted (item_of i) ≡ (((out-Item77 i).label == 0) && is_step (built_simple (simple_of a)))
  converted_simple a e =
      ap are_converted (item_is i ∙ ap with_body e ∙ body_simple a (out-Item77 i).number (out-Item77 i).label (out-Item77 i).place) ∙ and_true _

  pub converted_guarded : (x : Expr) (a : Stmt77) → (out-Item77 i).body ≡ v.Guarded x a → are_converted (item_of i) ≡ false
  converted_guarded x a e =
      ap are_converted (item_is i ∙ ap with_body e ∙ body_guarded x a (out-Item77 i).number (out-Item77 i).label (out-Item77 i).place)
      ∙ and_true _ ∙ and_false ((out-Item77 i).label == 0)

  pub converted_block : (arms : List Arm77) (last : EndIf) → (out-Item77 i).body ≡ v.If arms last → are_converted (item_of i) ≡ false
  converted_block arms last e = ap are_converted (item_is i ∙ ap with_body e ∙ body_block arms last (out-Item77 i).number (out-Item77 i).label (out-Item77 i).place)

  pub converted_loop : (h : DoHead) (is : List Item77) → (out-Item77 i).body ≡ v.Do h is → are_converted (item_of i) ≡ false
  converted_loop h is e = ap are_converted (item_is i ∙ ap with_body e ∙ body_loop h is (out-Item77 i).number (out-Item77 i).label (out-Item77 i).place)

pub converted_joined : (a b : Items) → are_converted (join a b) ≡ (are_converted a && are_converted b)
converted_joined u.done b = refl
converted_joined (u.simple l is) b = ap (λ c. is_converted_line l && c) (converted_joined is b) ∙ sym (and_assoc (is_converted_line l) (are_converted is) (are_converted b))
converted_joined (u.loop l inside is) b = refl
converted_joined (u.block arms e is) b = refl

pub all_converted : (is : List Item77) → are_converted (items_of is) ≡ list_all (λ i. are_converted (item_of i)) is
all_converted [] = refl
all_converted (i ∷ is) = converted_joined (item_of i) (items_of is) ∙ ap (λ b. are_converted (item_of i) && b) (all_converted is)

-- a statement with a label isn't converted
pub labelled : (n : ℕ) (b : Bool) → (n ≡ 0 → ⊥) → (n == 0) ≡ ((n == 0) && b)
labelled n b other = go (n == 0) refl
  where
    go : (t : Bool) → (n == 0) ≡ t → (n == 0) ≡ ((n == 0) && b)
    go true is = absurd (other (eqb-true n 0 is))
    go false is = is ∙ sym (ap (λ t. t && b) is)
