-- Expressions whose parts are expressions of any depth are expressions of some depth, and of each greater one.
use Rattle.std.proofs.Common.{ℕ, zero, suc, ◌+◌, ◌≤◌, List, refl, arith}
use Rattle.text_base.specs.Trees.{Expr, Exprs, Bound}
use Rattle.tree77.specs.Expressions.{Symbol, Grammar, Equivalence, Listed, listed_one, listed_more, IsCall, Argument, argument_expression, argument_alternate, IsParent, parent_variable, parent_element, IsBound, bound_absent, bound_at, Primary, primary_operand, primary_reference, primary_empty, primary_substring, primary_paren, Nested, IsExpression}
use Rattle.group77.proofs.Carrying.{Carries, equivalence_carried}

-- it is so from some depth on
abbrev Deep : (ℕ → Type 0) → Type 0
Deep X = (n : ℕ) × ((m : ℕ) → n ≤ m → X m)

-- what is so at every depth
always : (X : ℕ → Type 0) → ((m : ℕ) → X m) → Deep X
always X f = (zero, λ m l. f m)

-- what follows at each depth
then_deep : (X Y : ℕ → Type 0) → ((m : ℕ) → X m → Y m) → Deep X → Deep Y
then_deep X Y f a = (a.0, λ m l. f m (a.1 m l))

-- two at once
both_deep : (X Y Z : ℕ → Type 0) → ((m : ℕ) → X m → Y m → Z m) → Deep X → Deep Y → Deep Z
both_deep X Y Z f a b = (a.0 + b.0, λ m l. f m (a.1 m (omega (arith, l))) (b.1 m (omega (arith, l))))

-- operators and signs keep it
deep_carries : Carries ℕ (λ X t. Deep (λ m. X m t))
deep_carries =
    record {
      turned = λ X Y f t. then_deep _ _ (λ m. f m t);
      joined = λ o X Y u v. both_deep _ _ _ (λ m a b. (u, v, refl, a, b));
      signed = λ s X u. then_deep _ _ (λ m a. (u, refl, a));
    }

module _ (Inner : Grammar) (inner : (t : List Symbol) (x : Expr) → Inner t x → Deep (λ m. Nested m t x)) where
  -- what a list holds
  listed_deep : (Part : Grammar) (Deeper : ℕ → Grammar) → ((t : List Symbol) (x : Expr) → Part t x → Deep (λ m. Deeper m t x)) → {t : List Symbol} {xs : Exprs} → Listed Part t xs → Deep (λ m. Listed (Deeper m) t xs)
  listed_deep Part Deeper part {t} (listed_one {a} d is) = then_deep _ _ (λ m p. listed_one p is) (part t a d)
  listed_deep Part Deeper part (listed_more {u} {v} {others} {a} e d ds is) = both_deep _ _ _ (λ m p q. listed_more e p q is) (part u a d) (listed_deep Part Deeper part ds)

  -- a name and a list
  call_deep : (Part : Grammar) (Deeper : ℕ → Grammar) → ((t : List Symbol) (x : Expr) → Part t x → Deep (λ m. Deeper m t x)) → {t : List Symbol} {x : Expr} → IsCall Part t x → Deep (λ m. IsCall (Deeper m) t x)
  call_deep Part Deeper part d = then_deep _ _ (λ m l. record { of = d.of; inside = d.inside; parts = d.parts; whole = d.whole; listed = l; tree = d.tree }) (listed_deep Part Deeper part d.listed)

  -- an argument
  argument_deep : (t : List Symbol) (x : Expr) → Argument Inner t x → Deep (λ m. Argument (Nested m) t x)
  argument_deep t x (argument_expression d) = then_deep _ _ (λ m. argument_expression) (inner t x d)
  argument_deep t x (argument_alternate e is) = always _ (λ m. argument_alternate e is)

  -- what a substring is of
  parent_deep : {t : List Symbol} {x : Expr} → IsParent Inner t x → Deep (λ m. IsParent (Nested m) t x)
  parent_deep (parent_variable of e is) = always _ (λ m. parent_variable of e is)
  parent_deep (parent_element d) = then_deep _ _ (λ m. parent_element) (call_deep Inner Nested inner d)

  -- a bound
  bound_deep : {t : List Symbol} {b : Bound} → IsBound Inner t b → Deep (λ m. IsBound (Nested m) t b)
  bound_deep (bound_absent e is) = always _ (λ m. bound_absent e is)
  bound_deep {t} (bound_at {x} d is) = then_deep _ _ (λ m q. bound_at q is) (inner t x d)

  -- a primary
  primary_deep : (t : List Symbol) (x : Expr) → Primary Inner t x → Deep (λ m. Primary (Nested m) t x)
  primary_deep t x (primary_operand e) = always _ (λ m. primary_operand e)
  primary_deep t x (primary_reference d) = then_deep _ _ (λ m. primary_reference) (call_deep (Argument Inner) (λ m. Argument (Nested m)) argument_deep d)
  primary_deep t x (primary_empty of e is) = always _ (λ m. primary_empty of e is)
  primary_deep t x (primary_substring {u} {v} {w} {a} {from} {to} e d b c is) =
      let bounds : ℕ → Type 0 = λ m. IsBound (Nested m) v from × IsBound (Nested m) w to in
      both_deep _ bounds _ (λ m p q. primary_substring e p q.0 q.1 is) (parent_deep d) (both_deep _ _ bounds (λ m p q. (p, q)) (bound_deep b) (bound_deep c))
  primary_deep t x (primary_paren {u} {a} e d is) = then_deep _ _ (λ m q. primary_paren e q is) (inner u a d)

  -- what has such inside its parentheses
  equivalence_deep : (t : List Symbol) (x : Expr) → Equivalence (Primary Inner) t x → Deep (λ m. Equivalence (Primary (Nested m)) t x)
  equivalence_deep = equivalence_carried ℕ (λ X t. Deep (λ m. X m t)) deep_carries (Primary Inner) (λ m. Primary (Nested m)) primary_deep

-- an expression of some depth is one of any greater depth
nested_deep : (n : ℕ) (t : List Symbol) (x : Expr) → Nested n t x → Deep (λ m. Nested m t x)
nested_deep zero t x d = absurd d
nested_deep (suc n) t x d = let a = equivalence_deep (Nested n) (nested_deep n) t x d in (suc a.0, go a.0 a.1)
  where
    go : (k : ℕ) → ((m : ℕ) → k ≤ m → Equivalence (Primary (Nested m)) t x) → (m : ℕ) → suc k ≤ m → Nested m t x
    go k f zero l = absurd (omega (arith, l))
    go k f (suc m) l = f m (omega (arith, l))

-- what has expressions of any depth inside its parentheses is an expression
pub whole_expression : (t : List Symbol) (x : Expr) → Equivalence (Primary IsExpression) t x → IsExpression t x
whole_expression t x d = let a = equivalence_deep IsExpression (λ u y e. nested_deep e.0 u y e.1) t x d in (suc a.0, a.1 a.0 (omega arith))
