-- What an expression that has a type gives: a value of the type, or a fault.
use Rattle.std.proofs.Common.{◌≡◌, ℕ, List, [], ◌∷◌, map, Option, Some, None, refl, sym, ap, ◌∙◌, subst}
use Rattle.std.specs.Option.{option_map, option_and_then}
use Rattle.std.proofs.lemmas.Option.{same_Some}
use Rattle.text_base.specs.Trees.{Expr, int, bool, text, name, call, substring, unary, binary, paren, Exprs, none, more}
use Rattle.text_base.specs.Values.{Value, integer, logical, string, Kind, integers, logicals, characters, kind_of, run_fault, no_meaning}
use Rattle.text_base.specs.Operations.{Computed, computes, faults, unfit, outcome, outcome_kind}
use Rattle.text_base.specs.Operators.{unary_op, binary_op, intrinsic}
use Rattle.text_base.specs.ExpressionKinds.{call_kind, kind_of_expr, kinds_of_exprs}
use Rattle.text_base.specs.Runs.{fault, Out, gives, over, bind, known, computed}
use Rattle.text_base.specs.Evaluation.{Storage, Call, applied}
use Rattle.text_base.specs.Evaluation as e
use Rattle.text_base.specs.declared.operation.Op.{Op}
use Rattle.text_base.specs.declared.operation.RunFault.{RunFault}
use Rattle.text_base.specs.declared.operation.RunFault.TheVariants.{Undefined}
use Rattle.text_base.specs.declared.refusal.Place.{Place}
use Rattle.text_base.proofs.Optional as optional
use Rattle.text_base.proofs.Optional.{went}
use Rattle.definition_laws.specs.Faults.{TypedHaveMeaning}
use Rattle.value_ops.proofs.Rows.{Row, row}

module _ {W : Type 0} (storage : Storage W) (function : Call W) (here : Place) (w : W) where
  -- from any budget a value that fits, or a fault
  pub data Means {A : Type 0} (Fit : A → Type 0) (o : ℕ → Out W A) : Type 0 where
    gives_fit : (a : A) → Fit a → ((n : ℕ) → o n ≡ gives n w a) → Means Fit o
    gives_fault : (kind : RunFault) → ((n : ℕ) → o n ≡ over (fault here (run_fault kind))) → Means Fit o

  means_bind : {A B : Type 0} {Fit : A → Type 0} {Then : B → Type 0} {o : ℕ → Out W A} → Means Fit o → (k : ℕ → W → A → Out W B) → ((a : A) → Fit a → Means Then (λ n. k n w a)) → Means Then (λ n. bind (o n) k)
  means_bind {Then = Then} (gives_fit a fit e) k f = subst (Means Then) (λ i n. bind (sym (e n) i) k) (f a fit)
  means_bind (gives_fault kind e) k f = gives_fault kind (λ n. ap (λ r. bind r k) (e n))

  -- an operation of values of fitting types
  operation : (op : Op) (vs : List Value) (k : Kind) → outcome_kind op (map kind_of vs) ≡ Some k → Means (λ v. kind_of v ≡ k) (λ n. computed here (outcome op vs) n w)
  operation op vs k is = go (outcome op vs) (subst (Row vs (outcome op vs)) is (row op vs))
    where
      go : (r : Computed) → Row vs r (Some k) → Means (λ v. kind_of v ≡ k) (λ n. computed here r n w)
      go (computes v) fit = gives_fit v (same_Some (kind_of v) k (sym fit.0)) (λ n. refl)
      go (faults kind) fit = gives_fault kind (λ n. refl)
      go unfit fit = absurd cc

  -- a function of arguments of some types, where no variable has its name
  function_of : (o : Option Kind) (f : List ℕ) (vs : List Value) (k : Kind) → call_kind o f (map kind_of vs) ≡ Some k → Means (λ v. kind_of v ≡ k) (λ n. applied storage function here (intrinsic f) f vs n w)
  function_of (Some l) f vs k is = absurd cc
  function_of None f vs k is = let g = went (intrinsic f) (λ o. outcome_kind o (map kind_of vs)) k is in
      subst (λ o. Means (λ v. kind_of v ≡ k) (λ n. applied storage function here o f vs n w)) (sym g.was) (operation g.from vs k g.is)

  module _ (kinds : List ℕ → Option Kind) (typed_values : (x : List ℕ) (l : Kind) (v : Value) → kinds x ≡ Some l → storage.read w x ≡ Some v → kind_of v ≡ l) where
    mutual
      pub typed : (x : Expr) (k : Kind) → kind_of_expr kinds x ≡ Some k → Means (λ v. kind_of v ≡ k) (λ n. e.eval storage function here x n w)
      typed (int v) k is = gives_fit (integer v) (same_Some integers k is) (λ n. refl)
      typed (bool b) k is = gives_fit (logical b) (same_Some logicals k is) (λ n. refl)
      typed (text t) k is = gives_fit (string t) (same_Some characters k is) (λ n. refl)
      typed (name x) k is = go (storage.read w x) (λ v e. typed_values x k v is e)
        where
          go : (o : Option Value) → ((v : Value) → o ≡ Some v → kind_of v ≡ k) → Means (λ v. kind_of v ≡ k) (λ n. known here (run_fault Undefined) o n w)
          go None fit = gives_fault Undefined (λ n. refl)
          go (Some v) fit = gives_fit v (fit v refl) (λ n. refl)
      typed (call f xs) k is =
          let g = went (kinds_of_exprs kinds xs) (call_kind (kinds f) f) k is in
          means_bind (all_typed xs g.from g.was) (λ n u vs. applied storage function here (intrinsic f) f vs n u) (λ vs fit. function_of (kinds f) f vs k (ap (call_kind (kinds f) f) fit ∙ g.is))
      typed (substring a from to) k is = absurd cc
      typed (unary op a) k is =
          let g = went (kind_of_expr kinds a) (λ l. outcome_kind (unary_op op) (l ∷ [])) k is in
          means_bind (typed a g.from g.was) (λ n u x. computed here (outcome (unary_op op) (x ∷ [])) n u) (λ x fit. operation (unary_op op) (x ∷ []) k (ap (λ l. outcome_kind (unary_op op) (l ∷ [])) fit ∙ g.is))
      typed (binary op a b) k is =
          let g = went (kind_of_expr kinds a) (λ l. option_and_then (λ r. outcome_kind (binary_op op) (l ∷ r ∷ [])) (kind_of_expr kinds b)) k is in
          let h = went (kind_of_expr kinds b) (λ r. outcome_kind (binary_op op) (g.from ∷ r ∷ [])) k g.is in
          means_bind (typed a g.from g.was) (λ n u x. bind (e.eval storage function here b n u) (λ n u y. computed here (outcome (binary_op op) (x ∷ y ∷ [])) n u))
          (λ x left.
          means_bind (typed b h.from h.was) (λ n u y. computed here (outcome (binary_op op) (x ∷ y ∷ [])) n u)
          (λ y right. operation (binary_op op) (x ∷ y ∷ []) k ((λ i. outcome_kind (binary_op op) (left i ∷ right i ∷ [])) ∙ h.is)))
      typed (paren a) k is = typed a k is

      all_typed : (xs : Exprs) (ks : List Kind) → kinds_of_exprs kinds xs ≡ Some ks → Means (λ vs. map kind_of vs ≡ ks) (λ n. e.evals storage function here xs n w)
      all_typed none ks is = gives_fit [] (same_Some [] ks is) (λ n. refl)
      all_typed (more a rest) ks is =
          let g = went (kind_of_expr kinds a) (λ k. option_map (λ ks. k ∷ ks) (kinds_of_exprs kinds rest)) ks is in
          let h = optional.mapped (kinds_of_exprs kinds rest) (λ ks. g.from ∷ ks) ks g.is in
          means_bind (typed a g.from g.was) (λ n u x. bind (e.evals storage function here rest n u) (λ n u xs. gives n u (x ∷ xs)))
          (λ x first. means_bind (all_typed rest h.from h.was) (λ n u xs. gives n u (x ∷ xs)) (λ xs others. gives_fit (x ∷ xs) ((λ i. first i ∷ others i) ∙ h.is) (λ n. refl)))

-- what is seen of it
value_fits : {W : Type 0} (storage : Storage W) (function : Call W) (here : Place) (w : W) {Fit : Value → Type 0} {o : ℕ → Out W Value} → Means storage function here w Fit o
    → (n m : ℕ) (u : W) (v : Value) → o n ≡ gives m u v → Fit v
value_fits storage function here w {Fit = Fit} (gives_fit a fit e) n m u v f = let same : gives n w a ≡ gives m u v = sym (e n) ∙ f in let value : a ≡ v = cc in subst Fit value fit
value_fits storage function here w (gives_fault kind e) n m u v f = absurd (let wrong : over (fault here (run_fault kind)) ≡ gives m u v = sym (e n) ∙ f in cc)

has_meaning : {W : Type 0} (storage : Storage W) (function : Call W) (here : Place) (w : W) {Fit : Value → Type 0} {o : ℕ → Out W Value} → Means storage function here w Fit o
    → (n : ℕ) (at : Place) → o n ≡ over (fault at no_meaning) → ⊥
has_meaning storage function here w (gives_fit a fit e) n at f = let wrong : gives n w a ≡ over (fault at no_meaning) = sym (e n) ∙ f in absurd cc
has_meaning storage function here w (gives_fault kind e) n at f = let wrong : over (fault here (run_fault kind)) ≡ over (fault at no_meaning) = sym (e n) ∙ f in absurd cc

pub typed_meaning : (W : Type 0) → TypedHaveMeaning W
typed_meaning W storage function here kinds x k n w is typed_values =
    let means = typed storage function here w kinds typed_values x k is in
    (value_fits storage function here w means n, has_meaning storage function here w means n)
