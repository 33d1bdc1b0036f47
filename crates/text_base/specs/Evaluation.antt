-- Expressions, from left to right, and simple statements over any kind of storage (X3.9 sections 6.6 and 10.1;
-- ISO/IEC 1539:1991 sections 7.1.7 and 7.5.1). Both meanings evaluate so. They share this, with the counting of a simple
-- statement; how they go from statement to statement each says for itself.
use Rattle.std.specs.Prelude.{ℕ, List, [], ◌∷◌, Option, Some, None}
use Rattle.text_base.specs.Trees.{Expr, int, bool, text, name, call, substring, unary, binary, paren, Exprs, none, more, Action, assign, stop}
use Rattle.text_base.specs.Values.{Value, integer, logical, string, run_fault, no_meaning}
use Rattle.text_base.specs.declared.operation.Op.{Op}
use Rattle.text_base.specs.declared.operation.RunFault.TheVariants.{Undefined, ExpressionDefined}
use Rattle.text_base.specs.Operations.{outcome}
use Rattle.text_base.specs.Operators.{unary_op, binary_op, intrinsic}
use Rattle.text_base.specs.Runs.{ended, fault, Out, gives, over, bind, tick, known, computed, How, normal}
use Rattle.text_base.specs.declared.refusal.Place.{Place}

-- storage, by the names of a unit: a variable may have no value
pub record Storage (W : Type 0) : Type 0 where
  pub read : W → List ℕ → Option Value
  pub write : W → List ℕ → Value → W

-- a function that an expression refers to, by its name, of some values, from a budget
abbrev pub Call : Type 0 → Type 0
Call W = List ℕ → List Value → ℕ → W → Out W Value

module _ {W : Type 0} (storage : Storage W) (function : Call W) (here : Place) where
  -- a part that has no meaning yet
  abbrev pub meaningless : {A : Type 0} → W → Out W A
  meaningless w = over (fault here no_meaning)

  -- an intrinsic function of values, or another one
  abbrev pub applied : Option Op → List ℕ → List Value → ℕ → W → Out W Value
  applied (Some op) f values n w = computed here (outcome op values) n w
  applied None f values n w = function f values n w

  -- all operands and arguments are evaluated, each before what follows it
  abbrev mutual
    pub eval : Expr → ℕ → W → Out W Value
    eval (int v) n w = gives n w (integer v)
    eval (bool b) n w = gives n w (logical b)
    eval (text t) n w = gives n w (string t)
    eval (name x) n w = known here (run_fault Undefined) (storage.read w x) n w
    eval (call f xs) n w = bind (evals xs n w) (λ n w values. applied (intrinsic f) f values n w)
    eval (substring a from to) n w = meaningless w
    eval (unary op a) n w = bind (eval a n w) (λ n w x. computed here (outcome (unary_op op) (x ∷ [])) n w)
    eval (binary op a b) n w = bind (eval a n w) (λ n w x. bind (eval b n w) (λ n w y. computed here (outcome (binary_op op) (x ∷ y ∷ [])) n w))
    eval (paren a) n w = eval a n w

    pub evals : Exprs → ℕ → W → Out W (List Value)
    evals none n w = gives n w []
    evals (more a rest) n w = bind (eval a n w) (λ n w x. bind (evals rest n w) (λ n w xs. gives n w (x ∷ xs)))

  -- what stands on the left is defined
  abbrev pub define : Expr → Value → ℕ → W → Out W How
  define (name x) value n w = gives n (storage.write w x value) normal
  define (call f xs) value n w = meaningless w
  define (substring a from to) value n w = meaningless w
  define _ value n w = over (fault here (run_fault ExpressionDefined))

  abbrev pub action : Action → ℕ → W → Out W How
  action stop n w = tick n w (λ n. over (ended w None))
  action (assign d e) n w = tick n w (λ n. bind (eval e n w) (λ n w v. define d v n w))
