-- What an expression gives, by the values of its variables alone.
use Rattle.std.proofs.Common.{◌≡◌, ◌⊎◌, inl, inr, ℕ, true, false, List, [], ◌∷◌, ◌++◌, Contains, Option, Some, None, refl, sym, ap, ◌∙◌, subst, ⊎_elim}
use Rattle.std.specs.Prelude.{is_some}
use Rattle.std.specs.Option.{option_map, option_and_then}
use Rattle.std.proofs.lemmas.List.Elements.{All-contains, Contains-append_left, Contains-append_right}
use Rattle.text_base.specs.Trees.{Expr, int, bool, text, name, call, substring, unary, binary, paren, Exprs, none, more}
use Rattle.text_base.specs.Names.{expr_variables, exprs_variables, expr_functions, exprs_functions}
use Rattle.text_base.specs.Values.{Value, integer, logical, string, Fault, run_fault, no_meaning}
use Rattle.text_base.specs.Operations.{Computed, computes, faults, unfit, outcome}
use Rattle.text_base.specs.Operators.{unary_op, binary_op, intrinsic}
use Rattle.text_base.specs.Runs.{Final, fault, Out, gives, over, bind, known, computed}
use Rattle.text_base.specs.Evaluation.{Storage, Call, applied}
use Rattle.text_base.specs.Evaluation as e
use Rattle.text_base.specs.declared.operation.Op.{Op}
use Rattle.text_base.specs.declared.operation.RunFault.{RunFault}
use Rattle.text_base.specs.declared.operation.RunFault.TheVariants.{Undefined, ExpressionDefined}
use Rattle.text_base.specs.declared.refusal.Place.{Place}
use Rattle.definition_laws.specs.Faults.{value_from, function_value, value_in, values_in, HasFault, HaveFault, IsIntrinsic, ValuesAreGiven, GivenAreValues, UndefinedHasCause, FaultHasCause, FaultsAreHere, LeftIsFirst, FirstArgumentIsFirst}
use Rattle.value_ops.specs.Laws.{IsOperationFault}
use Rattle.value_ops.proofs.Rows.{three_ways}
use Rattle.definition_laws.proofs.NameOrder.{first_of}

-- why an expression gives nothing: a variable has no value, an operation faults, or a function isn't an intrinsic one
pub data Cause : Type 0 where
  unset : Cause
  failed : RunFault → Cause
  strange : Cause

-- a function that isn't an intrinsic one ends the run without a meaning, at a place
abbrev pub Stops : {W : Type 0} → Call W → Type 0
Stops {W} function = (at : Place) × ((f : List ℕ) (values : List Value) (n : ℕ) (w : W) → function f values n w ≡ over (fault at no_meaning))

-- no operation faults so
pub not_undefined : IsOperationFault Undefined → ⊥
not_undefined (inl is) = absurd cc
not_undefined (inr (inl is)) = absurd cc
not_undefined (inr (inr is)) = absurd cc

pub not_defined : IsOperationFault ExpressionDefined → ⊥
not_defined (inl is) = absurd cc
not_defined (inr (inl is)) = absurd cc
not_defined (inr (inr is)) = absurd cc

mapped : {A B : Type 0} (f : A → B) (o : Option A) → option_and_then (λ a. Some (f a)) o ≡ option_map f o
mapped f None = refl
mapped f (Some a) = refl

module _ {W : Type 0} (storage : Storage W) (function : Call W) (here : Place) (w : W) where
  abbrev values : List ℕ → Option Value
  values = storage.read w

  -- Of what is evaluated from any budget: the value that it gives, which leaves the budget and the store as they were, or the
  -- fault, with its cause.
  pub data Goes {A : Type 0} (o : ℕ → Out W A) (value : Option A) (Because : Cause → Type 0) : Type 0 where
    goes_on : (a : A) → value ≡ Some a → ((n : ℕ) → o n ≡ gives n w a) → Goes o value Because
    is_undefined : value ≡ None → Because unset → ((n : ℕ) → o n ≡ over (fault here (run_fault Undefined))) → Goes o value Because
    has_failed : (kind : RunFault) → IsOperationFault kind → value ≡ None → Because (failed kind) → ((n : ℕ) → o n ≡ over (fault here (run_fault kind))) → Goes o value Because
    has_no_meaning : value ≡ None → ((n : ℕ) → o n ≡ over (fault here no_meaning)) → Goes o value Because
    is_strange : value ≡ None → Because strange → ((stops : Stops function) (n : ℕ) → o n ≡ over (fault stops.0 no_meaning)) → Goes o value Because

  -- what goes on with a value
  goes_bind : {A B : Type 0} {o : ℕ → Out W A} {value : Option A} {Because Then : Cause → Type 0} → Goes o value Because → (k : ℕ → W → A → Out W B) (next : A → Option B) → ((c : Cause) → Because c → Then c)
      → ((a : A) → value ≡ Some a → Goes (λ n. k n w a) (next a) Then) → Goes (λ n. bind (o n) k) (option_and_then next value) Then
  goes_bind {B = B} {Then = Then} (goes_on a is e) k next lift f =
      subst (λ (q : (ℕ → Out W B) × Option B). Goes q.0 q.1 Then) (λ i. (λ n. bind (sym (e n) i) k, option_and_then next (sym is i))) (f a is)
  goes_bind (is_undefined is why e) k next lift f = is_undefined (ap (option_and_then next) is) (lift unset why) (λ n. ap (λ r. bind r k) (e n))
  goes_bind (has_failed kind way is why e) k next lift f = has_failed kind way (ap (option_and_then next) is) (lift (failed kind) why) (λ n. ap (λ r. bind r k) (e n))
  goes_bind (has_no_meaning is e) k next lift f = has_no_meaning (ap (option_and_then next) is) (λ n. ap (λ r. bind r k) (e n))
  goes_bind (is_strange is why e) k next lift f = is_strange (ap (option_and_then next) is) (lift strange why) (λ stops n. ap (λ r. bind r k) (e stops n))

  operation : (Because : Cause → Type 0) (op : Op) (vs : List Value) → ((kind : RunFault) → outcome op vs ≡ faults kind → Because (failed kind))
      → Goes (λ n. computed here (outcome op vs) n w) (value_from (outcome op vs)) Because
  operation Because op vs why = go (outcome op vs) refl
    where
      go : (r : Computed) → outcome op vs ≡ r → Goes (λ n. computed here r n w) (value_from r) Because
      go (computes v) is = goes_on v refl (λ n. refl)
      go (faults kind) is = has_failed kind (three_ways op vs kind is) refl (why kind is) (λ n. refl)
      go unfit is = has_no_meaning refl (λ n. refl)

  -- ---- causes

  -- a variable, a fault of an operation, and a function, of some
  abbrev pub Of : List (List ℕ) → List (List ℕ) → (RunFault → Type 0) → Cause → Type 0
  Of xs fs Fault unset = (x : List ℕ) × Contains xs x × (values x ≡ None)
  Of xs fs Fault (failed kind) = Fault kind
  Of xs fs Fault strange = (f : List ℕ) × Contains fs f × (intrinsic f ≡ None)

  abbrev pub OfExpr : Expr → Cause → Type 0
  OfExpr x = Of (expr_variables x) (expr_functions x) (λ kind. HasFault values kind x)

  abbrev pub OfExprs : Exprs → Cause → Type 0
  OfExprs xs = Of (exprs_variables xs) (exprs_functions xs) (λ kind. HaveFault values kind xs)

  lift : {F G : RunFault → Type 0} (xs ys fs gs : List (List ℕ)) → ((x : List ℕ) → Contains xs x → Contains ys x) → ((f : List ℕ) → Contains fs f → Contains gs f) → ((kind : RunFault) → F kind → G kind)
      → (c : Cause) → Of xs fs F c → Of ys gs G c
  lift xs ys fs gs variables functions on unset h = (h.0, variables h.0 h.1, h.2)
  lift xs ys fs gs variables functions on (failed kind) h = on kind h
  lift xs ys fs gs variables functions on strange h = (h.0, functions h.0 h.1, h.2)

  -- those of the first part, and of the second
  first : {F G : RunFault → Type 0} (xs ys fs gs : List (List ℕ)) → ((kind : RunFault) → F kind → G kind) → (c : Cause) → Of xs fs F c → Of (xs ++ ys) (fs ++ gs) G c
  first xs ys fs gs = lift xs (xs ++ ys) fs (fs ++ gs) (Contains-append_left xs ys) (Contains-append_left fs gs)

  second : {F G : RunFault → Type 0} (xs ys fs gs : List (List ℕ)) → ((kind : RunFault) → F kind → G kind) → (c : Cause) → Of ys gs F c → Of (xs ++ ys) (fs ++ gs) G c
  second xs ys fs gs = lift ys (xs ++ ys) gs (fs ++ gs) (Contains-append_right xs ys) (Contains-append_right fs gs)

  -- ---- expressions

  mutual
    pub goes : (x : Expr) → Goes (λ n. e.eval storage function here x n w) (value_in values x) (OfExpr x)
    goes (int v) = goes_on (integer v) refl (λ n. refl)
    goes (bool b) = goes_on (logical b) refl (λ n. refl)
    goes (text t) = goes_on (string t) refl (λ n. refl)
    goes (name x) = go (values x) refl
      where
        go : (o : Option Value) → values x ≡ o → Goes (λ n. known here (run_fault Undefined) o n w) o (OfExpr (name x))
        go None is = is_undefined refl (x, first_of x [], is) (λ n. refl)
        go (Some v) is = goes_on v refl (λ n. refl)
    goes (call f xs) =
        goes_bind (all_go xs) (λ n u vs. applied storage function here (intrinsic f) f vs n u) (function_value (intrinsic f))
        (lift (exprs_variables xs) (exprs_variables xs) (exprs_functions xs) (f ∷ exprs_functions xs) (λ x c. c) (Contains-append_right (f ∷ []) (exprs_functions xs)) (λ kind h. inl h)) (λ vs is. go vs is (intrinsic f) refl)
      where
        go : (vs : List Value) → values_in values xs ≡ Some vs → (o : Option Op) → intrinsic f ≡ o → Goes (λ n. applied storage function here o f vs n w) (function_value o vs) (OfExpr (call f xs))
        go vs is None at = is_strange refl (f, first_of f (exprs_functions xs), at) (λ stops n. stops.1 f vs n w)
        go vs is (Some op) at = operation (OfExpr (call f xs)) op vs (λ kind h. inr (op, at, (vs, is, h)))
    goes (substring a from to) = has_no_meaning refl (λ n. refl)
    goes (unary op a) =
        goes_bind (goes a) (λ n u x. computed here (outcome (unary_op op) (x ∷ [])) n u) (λ x. value_from (outcome (unary_op op) (x ∷ []))) (lift (expr_variables a) (expr_variables a) (expr_functions a) (expr_functions a) (λ x c. c) (λ x c. c) (λ kind h. inl h))
        (λ x is. operation (OfExpr (unary op a)) (unary_op op) (x ∷ []) (λ kind h. inr (x ∷ [], ap (option_and_then (λ y. Some (y ∷ []))) is, h)))
    goes (binary op a b) =
        goes_bind (goes a) (λ n u x. bind (e.eval storage function here b n u) (λ n u y. computed here (outcome (binary_op op) (x ∷ y ∷ [])) n u)) (λ x. option_and_then (λ y. value_from (outcome (binary_op op) (x ∷ y ∷ []))) (value_in values b))
        (first (expr_variables a) (expr_variables b) (expr_functions a) (expr_functions b) (λ kind h. inl h))
        (λ x is.
        goes_bind (goes b) (λ n u y. computed here (outcome (binary_op op) (x ∷ y ∷ [])) n u) (λ y. value_from (outcome (binary_op op) (x ∷ y ∷ [])))
        (second (expr_variables a) (expr_variables b) (expr_functions a) (expr_functions b) (λ kind h. inr (inl h)))
        (λ y at. operation (OfExpr (binary op a b)) (binary_op op) (x ∷ y ∷ []) (λ kind h. inr (inr (x ∷ y ∷ [], operands x y is at, h)))))
      where
        operands : (x y : Value) → value_in values a ≡ Some x → value_in values b ≡ Some y → values_in values (more a (more b none)) ≡ Some (x ∷ y ∷ [])
        operands x y is at = λ i. option_and_then (λ u. option_map (λ us. u ∷ us) (option_and_then (λ v. Some (v ∷ [])) (at i))) (is i)
    goes (paren a) = goes a

    pub all_go : (xs : Exprs) → Goes (λ n. e.evals storage function here xs n w) (values_in values xs) (OfExprs xs)
    all_go none = goes_on [] refl (λ n. refl)
    all_go (more a rest) =
        goes_bind (goes a) (λ n u x. bind (e.evals storage function here rest n u) (λ n u xs. gives n u (x ∷ xs))) (λ x. option_map (λ xs. x ∷ xs) (values_in values rest))
        (first (expr_variables a) (exprs_variables rest) (expr_functions a) (exprs_functions rest) (λ kind h. inl h))
        (λ x is.
        subst (λ o. Goes (λ n. bind (e.evals storage function here rest n w) (λ n u xs. gives n u (x ∷ xs))) o (OfExprs (more a rest))) (mapped (λ xs. x ∷ xs) (values_in values rest))
        (goes_bind (all_go rest) (λ n u xs. gives n u (x ∷ xs)) (λ xs. Some (x ∷ xs)) (second (expr_variables a) (exprs_variables rest) (expr_functions a) (exprs_functions rest) (λ kind h. inr h)) (λ xs at. goes_on (x ∷ xs) refl (λ n. refl))))

  -- ---- what is seen of them

  -- a value that is given is the value, and nothing changes
  pub value_seen : {A : Type 0} {o : ℕ → Out W A} {value : Option A} {Because : Cause → Type 0} → (Because strange → Stops function) → Goes o value Because
      → (n m : ℕ) (u : W) (a : A) → o n ≡ gives m u a → (m ≡ n) × (u ≡ w) × (value ≡ Some a)
  value_seen calm (goes_on b is e) n m u a f = let same : gives n w b ≡ gives m u a = sym (e n) ∙ f in let value : b ≡ a = cc in (cc, cc, is ∙ ap Some value)
  value_seen calm (is_undefined is why e) n m u a f = absurd (let wrong : over (fault here (run_fault Undefined)) ≡ gives m u a = sym (e n) ∙ f in cc)
  value_seen calm (has_failed kind way is why e) n m u a f = absurd (let wrong : over (fault here (run_fault kind)) ≡ gives m u a = sym (e n) ∙ f in cc)
  value_seen calm (has_no_meaning is e) n m u a f = absurd (let wrong : over (fault here no_meaning) ≡ gives m u a = sym (e n) ∙ f in cc)
  value_seen calm (is_strange is why e) n m u a f = absurd (let wrong : over (fault (calm why).0 no_meaning) ≡ gives m u a = sym (e (calm why) n) ∙ f in cc)

  -- where there is a value it is given
  pub given_seen : {A : Type 0} {o : ℕ → Out W A} {value : Option A} {Because : Cause → Type 0} → Goes o value Because → (n : ℕ) (a : A) → value ≡ Some a → o n ≡ gives n w a
  given_seen (goes_on b is e) n a f = let same : Some b ≡ Some a = sym is ∙ f in let value : b ≡ a = cc in e n ∙ ap (gives n w) value
  given_seen (is_undefined is why e) n a f = absurd cc
  given_seen (has_failed kind way is why e) n a f = absurd cc
  given_seen (has_no_meaning is e) n a f = absurd cc
  given_seen (is_strange is why e) n a f = absurd cc

  -- the cause of a fault, which is here
  abbrev pub Caused : (Cause → Type 0) → RunFault → Type 0
  Caused Because kind = ((kind ≡ Undefined) × Because unset) ⊎ (IsOperationFault kind × Because (failed kind))

  pub fault_seen : {A : Type 0} {o : ℕ → Out W A} {value : Option A} {Because : Cause → Type 0} → (Because strange → Stops function) → Goes o value Because
      → (n : ℕ) (at : Place) (kind : RunFault) → o n ≡ over (fault at (run_fault kind)) → (here ≡ at) × Caused Because kind
  fault_seen calm (goes_on b is e) n at kind f = absurd (let wrong : gives n w b ≡ over (fault at (run_fault kind)) = sym (e n) ∙ f in cc)
  fault_seen calm (is_undefined is why e) n at kind f = let same : over (fault here (run_fault Undefined)) ≡ over (fault at (run_fault kind)) = sym (e n) ∙ f in (cc, inl (cc, why))
  fault_seen {Because = Because} calm (has_failed k way is why e) n at kind f =
      let same : over (fault here (run_fault k)) ≡ over (fault at (run_fault kind)) = sym (e n) ∙ f in
      let reason : k ≡ kind = cc in
      (cc, inr (subst IsOperationFault reason way, subst (λ k. Because (failed k)) reason why))
  fault_seen calm (has_no_meaning is e) n at kind f = absurd (let wrong : over (fault here no_meaning) ≡ over (fault at (run_fault kind)) = sym (e n) ∙ f in cc)
  fault_seen calm (is_strange is why e) n at kind f = absurd (let wrong : over (fault (calm why).0 no_meaning) ≡ over (fault at (run_fault kind)) = sym (e (calm why) n) ∙ f in cc)

  -- the run is over by a fault alone
  pub over_seen : {A : Type 0} {o : ℕ → Out W A} {value : Option A} {Because : Cause → Type 0} → (Because strange → ⊥) → Goes o value Because
      → (n : ℕ) (f : Final W) → o n ≡ over f → (kind : Fault) × (f ≡ fault here kind)
  over_seen calm (goes_on b is e) n f h = absurd (let wrong : gives n w b ≡ over f = sym (e n) ∙ h in cc)
  over_seen calm (is_undefined is why e) n f h = let same : over (fault here (run_fault Undefined)) ≡ over f = sym (e n) ∙ h in (run_fault Undefined, cc)
  over_seen calm (has_failed kind way is why e) n f h = let same : over (fault here (run_fault kind)) ≡ over f = sym (e n) ∙ h in (run_fault kind, cc)
  over_seen calm (has_no_meaning is e) n f h = let same : over (fault here no_meaning) ≡ over f = sym (e n) ∙ h in (no_meaning, cc)
  over_seen calm (is_strange is why e) n f h = absurd (calm why)

  intrinsic_only : (x : Expr) → IsIntrinsic x → OfExpr x strange → ⊥
  intrinsic_only x only h = let wrong : false ≡ true = sym (ap is_some h.2) ∙ All-contains (λ f. is_some (intrinsic f) ≡ true) (expr_functions x) h.0 only h.1 in cc

-- ---- the laws

module _ (W : Type 0) where
  pub values_given : ValuesAreGiven W
  values_given storage function here x n m w u v only f = value_seen storage function here w (λ h. absurd (intrinsic_only storage function here w x only h)) (goes storage function here w x) n m u v f

  pub given_values : GivenAreValues W
  given_values storage function here x n w v f = given_seen storage function here w (goes storage function here w x) n v f

  pub fault_cause : FaultHasCause W
  fault_cause storage function here at x n w kind only f =
      ⊎_elim (λ h. inl h) (λ h. inr h.1) (fault_seen storage function here w (λ h. absurd (intrinsic_only storage function here w x only h)) (goes storage function here w x) n at kind f).1

  pub undefined_cause : UndefinedHasCause W
  undefined_cause storage function here at x n w only f =
      ⊎_elim (λ h. h.1) (λ h. absurd (not_undefined h.0)) (fault_seen storage function here w (λ h. absurd (intrinsic_only storage function here w x only h)) (goes storage function here w x) n at Undefined f).1

  pub faults_here : FaultsAreHere W
  faults_here storage function here x n w f only h = over_seen storage function here w (intrinsic_only storage function here w x only) (goes storage function here w x) n f h

  pub left_first : LeftIsFirst W
  left_first storage function here op a b n w f is = ap (λ o. bind o (λ m u x. bind (e.eval storage function here b m u) (λ m u y. computed here (outcome (binary_op op) (x ∷ y ∷ [])) m u))) is

  pub argument_first : FirstArgumentIsFirst W
  argument_first storage function here x a rest n w f is =
      ap (λ o. bind (bind o (λ m u y. bind (e.evals storage function here rest m u) (λ m u ys. gives m u (y ∷ ys)))) (λ m u ys. applied storage function here (intrinsic x) x ys m u)) is
