-- What a simple statement does: it defines a variable, ends the run, or faults, whatever the budget that it is counted in.
use Rattle.std.proofs.Common.{◌≡◌, ◌≢◌, ◌⊎◌, inl, inr, ℕ, suc, List, refl, ap, ◌∙◌}
use Rattle.text_base.specs.Trees.{Expr, int, bool, text, name, call, substring, unary, binary, paren, assign}
use Rattle.text_base.specs.Values.{Value, Fault, run_fault, no_meaning}
use Rattle.text_base.specs.Runs.{Out, gives, over, fault, bind, normal}
use Rattle.text_base.specs.Evaluation.{Storage, Call}
use Rattle.text_base.specs.Evaluation as e
use Rattle.text_base.specs.declared.operation.RunFault.TheVariants.{Undefined, ExpressionDefined}
use Rattle.text_base.specs.declared.refusal.Place.{Place}
use Rattle.definition_laws.specs.Faults.{value_in}
use Rattle.definition_laws.proofs.Evaluating.{Stops, Goes, goes_on, is_undefined, has_failed, has_no_meaning, is_strange, OfExpr, goes}

-- a fault of what is defined, which is no variable, and of no evaluation
abbrev pub IsOther : Expr → Fault → Type 0
IsOther d kind = ((kind ≡ run_fault ExpressionDefined) ⊎ (kind ≡ no_meaning)) × ((x : List ℕ) → d ≢ name x)

module _ {W : Type 0} (storage : Storage W) (function : Call W) (stops : Stops function) (here : Place) where
  -- the variable that is defined, or the fault
  abbrev Defines : Expr → Type 0
  Defines d =
      ((x : List ℕ) × ((v : Value) (n : ℕ) (w : W) → e.define storage function here d v n w ≡ gives n (storage.write w x v) normal) × (d ≡ name x))
      ⊎ ((kind : Fault) × ((v : Value) (n : ℕ) (w : W) → e.define storage function here d v n w ≡ over (fault here kind)) × IsOther d kind)

  defines : (d : Expr) → Defines d
  defines (name x) = inl (x, λ v n w. refl, refl)
  defines (call f xs) = inr (no_meaning, λ v n w. refl, (inr refl, λ x e. cc))
  defines (substring a from to) = inr (no_meaning, λ v n w. refl, (inr refl, λ x e. cc))
  defines (int z) = inr (run_fault ExpressionDefined, λ v n w. refl, (inl refl, λ x e. cc))
  defines (bool b) = inr (run_fault ExpressionDefined, λ v n w. refl, (inl refl, λ x e. cc))
  defines (text t) = inr (run_fault ExpressionDefined, λ v n w. refl, (inl refl, λ x e. cc))
  defines (unary op a) = inr (run_fault ExpressionDefined, λ v n w. refl, (inl refl, λ x e. cc))
  defines (binary op a b) = inr (run_fault ExpressionDefined, λ v n w. refl, (inl refl, λ x e. cc))
  defines (paren a) = inr (run_fault ExpressionDefined, λ v n w. refl, (inl refl, λ x e. cc))

  -- an expression gives a value, or faults
  abbrev Evaluates : Expr → W → Type 0
  Evaluates x w =
      ((v : Value) × ((n : ℕ) → e.eval storage function here x n w ≡ gives n w v))
      ⊎ ((at : Place) × (kind : Fault) × ((n : ℕ) → e.eval storage function here x n w ≡ over (fault at kind)))

  evaluates : (x : Expr) (w : W) → Evaluates x w
  evaluates x w = go (goes storage function here w x)
    where
      go : Goes storage function here w (λ n. e.eval storage function here x n w) (value_in (storage.read w) x) (OfExpr storage function here w x) → Evaluates x w
      go (goes_on v is e) = inl (v, e)
      go (is_undefined is why e) = inr (here, run_fault Undefined, e)
      go (has_failed kind way is why e) = inr (here, run_fault kind, e)
      go (has_no_meaning is e) = inr (here, no_meaning, e)
      go (is_strange is why e) = inr (stops.0, no_meaning, e stops)

  -- an assignment defines a variable, or faults by its expression or what it defines
  abbrev pub Acts : Expr → Expr → W → Type 0
  Acts d x w =
      ((y : List ℕ) × (v : Value) × ((b : ℕ) → e.action storage function here (assign d x) (suc b) w ≡ gives b (storage.write w y v) normal) × (d ≡ name y) × ((n : ℕ) → e.eval storage function here x n w ≡ gives n w v))
      ⊎ ((at : Place) × (kind : Fault) × ((b : ℕ) → e.action storage function here (assign d x) (suc b) w ≡ over (fault at kind)) × (((n : ℕ) → e.eval storage function here x n w ≡ over (fault at kind)) ⊎ ((here ≡ at) × IsOther d kind)))

  pub acts : (d x : Expr) (w : W) → Acts d x w
  acts d x w = go (evaluates x w) (defines d)
    where
      evaluated : (b : ℕ) (r : Out W Value) → e.eval storage function here x b w ≡ r → e.action storage function here (assign d x) (suc b) w ≡ bind r (λ n w v. e.define storage function here d v n w)
      evaluated b r is = ap (λ o. bind o (λ n w v. e.define storage function here d v n w)) is

      go : Evaluates x w → Defines d → Acts d x w
      go (inr f) define = inr (f.0, f.1, λ b. evaluated b (over (fault f.0 f.1)) (f.2 b), inl f.2)
      go (inl h) (inl k) = inl (k.0, h.0, λ b. evaluated b (gives b w h.0) (h.1 b) ∙ k.1 h.0 b w, k.2, h.1)
      go (inl h) (inr k) = inr (here, k.0, λ b. evaluated b (gives b w h.0) (h.1 b) ∙ k.1 h.0 b w, inr (refl, k.2))
