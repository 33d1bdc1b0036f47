-- What is carried from one text to another is carried through the grammar of operators and signs: from a text over the one
-- kind of primaries to texts over others.
use Rattle.std.proofs.Common.{◌≡◌, Bool, List, ◌∷◌, ◌++◌}
use Rattle.text_base.specs.Trees.{UnaryOp, negation, BinaryOp, power, Expr}
use Rattle.tree77.specs.Expressions.{Symbol, operator, Grammar, is_product, is_sum, is_concat, is_conjunction, is_disjunction, is_equivalence, sign_symbol, Chain, chain_one, chain_more, Factor, factor_one, factor_power, Term, Signed, signed_none, signed_by, Concatenation, Relation, relation_one, relation_two, Negation, negation_none, negation_by, Equivalence}

-- what holds of texts, at each of some indices
abbrev pub Facts : Type 0 → Type 1
Facts I = I → List Symbol → Type 0

-- a text with an operator in it
abbrev pub Joined : {I : Type 0} → BinaryOp → Facts I → Facts I → Facts I
Joined o X Y i t = (u : List Symbol) × (v : List Symbol) × (t ≡ u ++ operator o ∷ v) × X i u × Y i v

-- a text with a sign or .NOT. before it
abbrev pub Behind : {I : Type 0} → UnaryOp → Facts I → Facts I
Behind s X i t = (u : List Symbol) × (t ≡ sign_symbol s ∷ u) × X i u

-- what a text is carried to, kept by operators and signs
pub record Carries (I : Type 0) (M : Facts I → List Symbol → Type 0) : Type 1 where
  pub turned : (X Y : Facts I) → ((i : I) (t : List Symbol) → X i t → Y i t) → (t : List Symbol) → M X t → M Y t
  pub joined : (o : BinaryOp) (X Y : Facts I) (u v : List Symbol) → M X u → M Y v → M (Joined o X Y) (u ++ operator o ∷ v)
  pub signed : (s : UnaryOp) (X : Facts I) (u : List Symbol) → M X u → M (Behind s X) (sign_symbol s ∷ u)

module _ (I : Type 0) (M : Facts I → List Symbol → Type 0) (carries : Carries I M) where
  -- texts of the one grammar are carried to those of the others
  abbrev pub Carried : Grammar → (I → Grammar) → Type 0
  Carried G H = (t : List Symbol) (x : Expr) → G t x → M (λ i u. H i u x) t

  -- a chain
  chain_carried : (joins : BinaryOp → Bool) (F N : Grammar) (G O : I → Grammar) → Carried F G → Carried N O → Carried (Chain joins F N) (λ i. Chain joins (G i) (O i))
  chain_carried joins F N G O first next t x (chain_one d) = carries.turned _ _ (λ i u q. chain_one q) t (first t x d)
  chain_carried joins F N G O first next t x (chain_more {u} {v} {a} {b} o whole j d e is) =
      rw whole (carries.turned _ _ (λ i w q. chain_more o q.2 j q.3 q.4 is) (u ++ operator o ∷ v) (carries.joined o _ _ u v (chain_carried joins F N G O first next u a d) (next v b e)))

  module _ (P : Grammar) (Q : I → Grammar) (primary : Carried P Q) where
    -- a factor
    factor_carried : Carried (Factor P) (λ i. Factor (Q i))
    factor_carried t x (factor_one d) = carries.turned _ _ (λ i u q. factor_one q) t (primary t x d)
    factor_carried t x (factor_power {u} {v} {a} {b} whole e d is) =
        rw whole (carries.turned _ _ (λ i w q. factor_power q.2 q.3 q.4 is) (u ++ operator power ∷ v) (carries.joined power _ _ u v (primary u a e) (factor_carried v b d)))

    -- a term
    term_carried : Carried (Term P) (λ i. Term (Q i))
    term_carried = chain_carried is_product _ _ _ _ factor_carried factor_carried

    -- a term with a sign, or without
    signed_carried : Carried (Signed P) (λ i. Signed (Q i))
    signed_carried t x (signed_none d) = carries.turned _ _ (λ i u q. signed_none q) t (term_carried t x d)
    signed_carried t x (signed_by {u} {a} s n whole d is) = rw whole (carries.turned _ _ (λ i w q. signed_by s n q.1 q.2 is) (sign_symbol s ∷ u) (carries.signed s _ u (term_carried u a d)))

    -- a concatenation of sums
    concatenation_carried : Carried (Concatenation P) (λ i. Concatenation (Q i))
    concatenation_carried = let sum = chain_carried is_sum _ _ _ _ signed_carried term_carried in chain_carried is_concat _ _ _ _ sum sum

    -- a relation
    relation_carried : Carried (Relation P) (λ i. Relation (Q i))
    relation_carried t x (relation_one d) = carries.turned _ _ (λ i u q. relation_one q) t (concatenation_carried t x d)
    relation_carried t x (relation_two {u} {v} {a} {b} o whole j d e is) =
        rw whole (carries.turned _ _ (λ i w q. relation_two o q.2 j q.3 q.4 is) (u ++ operator o ∷ v) (carries.joined o _ _ u v (concatenation_carried u a d) (concatenation_carried v b e)))

    -- a relation with .NOT., or without
    negation_carried : Carried (Negation P) (λ i. Negation (Q i))
    negation_carried t x (negation_none d) = carries.turned _ _ (λ i u q. negation_none q) t (relation_carried t x d)
    negation_carried t x (negation_by {u} {a} whole d is) = rw whole (carries.turned _ _ (λ i w q. negation_by q.1 q.2 is) (sign_symbol negation ∷ u) (carries.signed negation _ u (relation_carried u a d)))

    -- an expression
    pub equivalence_carried : Carried (Equivalence P) (λ i. Equivalence (Q i))
    equivalence_carried =
        let conjunction = chain_carried is_conjunction _ _ _ _ negation_carried negation_carried in
        let disjunction = chain_carried is_disjunction _ _ _ _ conjunction conjunction in
        chain_carried is_equivalence _ _ _ _ disjunction disjunction
