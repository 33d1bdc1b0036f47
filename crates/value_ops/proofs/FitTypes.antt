-- Whether values fit an operation, by their types.
use Rattle.std.proofs.Common.{◌≡◌, refl, sym, ap, ◌∙◌, Bool, true, false, List, map}
use Rattle.std.proofs.lemmas.Bool.{false≢true}
use Rattle.std.proofs.lemmas.List.Folds.{list_all-map}
use Rattle.std.specs.List.{list_all}
use Rattle.std.specs.Prelude.{IsTrue, ◌↔◌, ◌≢◌}
use Rattle.std.specs.Option.{is_some}
use Rattle.text_base.specs.declared.operation.Op.{Op}
use Rattle.text_base.specs.Values.{Value, kind_of}
use Rattle.text_base.specs.Operations.{outcome, outcome_kind, unfit}
use Rattle.value_ops.proofs.Rows.{needs, unfit_is_none}

pub fits_where : (o : Op) (vs : List Value) (b : Bool) → b ≡ is_some (outcome_kind o (map kind_of vs)) → IsTrue b ↔ (outcome o vs ≢ unfit)
fits_where o vs true e = (λ t u. false≢true (sym (e ∙ ap is_some (unfit_is_none o vs u))), λ n. refl)
fits_where o vs false e = (λ t. absurd (false≢true t), λ n. e ∙ needs o vs n)

pub map_twice : {A B C : Type 0} (p : C → Bool) (g : B → C) (f : A → B) (xs : List A) → list_all p (map g (map f xs)) ≡ list_all (λ x. p (g (f x))) xs
map_twice p g f xs = list_all-map p g (map f xs) ∙ list_all-map (λ y. p (g y)) f xs
