-- Operands and operators are grouped to the tree exactly where they are an expression with that tree: rule by rule, what a
-- reader gives stands at the front of the symbols, and what stands at the front is read, whatever follows.
use Rattle.std.proofs.Common.{◌≡◌, ◌≢◌, ℕ, zero, suc, ◌≤◌, Bool, true, false, not, ◌&&◌, List, [], ◌∷◌, ◌++◌, map, length, Option, Some, None, refl, sym, ap, subst, ◌∙◌, append_assoc, append-nil, arith}
use Rattle.std.specs.Prelude.{if◌then◌else◌}
use Rattle.std.specs.Option.{option_map}
use Rattle.std.proofs.lemmas.Option.{same_Some}
use Rattle.std.proofs.lemmas.List.{length-append}
use Rattle.text_base.specs.Trees.{plus, minus, negation, BinaryOp, power, times, over, add, subtract, concat, less, less_equal, equal, not_equal, greater, greater_equal, conjunction, disjunction, equivalence, nonequivalence, Expr, unary, binary}
use Rattle.text_base.proofs.Optional.{went, mapped}
use Rattle.tree77.specs.Expressions.{Symbol, operand, alternate, operator, not_sign, opening, closing, comma, colon, Grammar, is_product, is_sum, is_concat, is_relation, is_conjunction, is_disjunction, is_equivalence, sign_symbol, Chain, chain_one, chain_more, Factor, factor_one, factor_power, Term, Signed, signed_none, signed_by, Sum, Concatenation, Relation, relation_one, relation_two, Negation, negation_none, negation_by, Conjunction, Disjunction, Equivalence}
use Rattle.group77.specs.Grouping.{Reader, behind_operator, is_power, read_factor, more_at, read_more, read_chain, read_term, sign_of, signed_at, read_signed, read_sum, read_concatenation, related, read_relation, behind_not, negated_at, read_negation, read_conjunction, read_disjunction, read_equivalence, ended, group}
use Rattle.group77.specs.Building.{build}
use Rattle.group77.specs.Symbol.{grammar_symbol}
use Rattle.group77.specs.declared.symbol.Symbol as code
use Rattle.group77.proofs.GroupSteps.{operator_found, operator_stands, operator_fails, either, neither}
use Rattle.group77.proofs.FactorSteps.{is_the_power, power_at, factor_is}

-- a symbol that is an operand by itself
abbrev pub IsOperand : Grammar
IsOperand t x = t ≡ operand x ∷ []

-- the symbols are a front that the grammar has, and the rest
abbrev Front : Grammar → List Symbol → Expr × List Symbol → Type 0
Front G t p = (u : List Symbol) × (t ≡ u ++ p.1) × G u p.0

-- what is read is a front of the grammar, and what the grammar has is read where no operator of the test follows
record Exact (tight : BinaryOp → Bool) (G : Grammar) (read : Reader) : Type 0 where
  sound : (t : List Symbol) (p : Expr × List Symbol) → read t ≡ Some p → Front G t p
  complete : (u : List Symbol) (x : Expr) → G u x → (r : List Symbol) → behind_operator tight r ≡ None → read (u ++ r) ≡ Some (x, r)

-- ---- operators of one sort, grouped from the left

-- no operator passes both tests
abbrev Apart : (BinaryOp → Bool) → (BinaryOp → Bool) → Type 0
Apart joins tight = (o : BinaryOp) → joins o ≡ true → tight o ≡ false

module _ (joins tight : BinaryOp → Bool) (First Next : Grammar) (first next : Reader) (first_is : Exact tight First first) (next_is : Exact tight Next next) (apart : Apart joins tight) where
  -- what is read on from a chain is a longer one
  more_sound : (n : ℕ) (x : Expr) (t u : List Symbol) (p : Expr × List Symbol) → Chain joins First Next u x → read_more joins next n x t ≡ Some p → Front (Chain joins First Next) (u ++ t) p
  more_sound zero x t u p d h = subst (λ (q : Expr × List Symbol). Front (Chain joins First Next) (u ++ t) q) (same_Some _ _ h) (u, refl, d)
  more_sound (suc n) x t u p d h = go (behind_operator joins t) refl h (λ y r v. more_sound n y r v p)
    where
      go : (o : Option (BinaryOp × List Symbol)) → behind_operator joins t ≡ o → more_at next (read_more joins next n) x t o ≡ Some p
          → ((y : Expr) (r v : List Symbol) → Chain joins First Next v y → read_more joins next n y r ≡ Some p → Front (Chain joins First Next) (v ++ r) p)
          → Front (Chain joins First Next) (u ++ t) p
      go None k h more = subst (λ (q : Expr × List Symbol). Front (Chain joins First Next) (u ++ t) q) (same_Some _ _ h) (u, refl, d)
      go (Some o) k h more =
          let w = went (next o.1) (λ q. read_more joins next n (binary o.0 x q.0) q.1) p h in
          let f = next_is.sound o.1 w.from w.was in
          let stands = operator_found joins t o k in
          let same : u ++ t ≡ (u ++ operator o.0 ∷ f.0) ++ w.from.1 = ap (λ (v : List Symbol). u ++ v) (stands.0 ∙ ap (λ (v : List Symbol). operator o.0 ∷ v) f.1) ∙ sym (append_assoc u (operator o.0 ∷ f.0) w.from.1) in
          rw same (more (binary o.0 x w.from.0) w.from.1 (u ++ operator o.0 ∷ f.0) (chain_more o.0 refl stands.1 d f.2 refl) w.is)

  -- a chain is read, and reading goes on behind it with turns enough
  chain_goes_on : {u : List Symbol} {x : Expr} → Chain joins First Next u x → (r : List Symbol) → behind_operator tight r ≡ None
      → (k : ℕ) × (length r ≤ k) × (read_chain joins first next (u ++ r) ≡ read_more joins next k x r)
  chain_goes_on {u} {x} (chain_one d) r s = (length r, omega arith, rw (first_is.complete u x d r s) refl)
  chain_goes_on {u} {x} (chain_more {u = v} {v = w} {a = a} {b = b} o whole j d p is) r s =
      let before = chain_goes_on d (operator o ∷ (w ++ r)) (operator_fails tight o (w ++ r) (apart o j)) in
      go before.0 before.1 before.2
    where
      go : (k : ℕ) → length (operator o ∷ (w ++ r)) ≤ k → read_chain joins first next (v ++ operator o ∷ (w ++ r)) ≡ read_more joins next k a (operator o ∷ (w ++ r))
          → (k : ℕ) × (length r ≤ k) × (read_chain joins first next (u ++ r) ≡ read_more joins next k x r)
      go zero l h = absurd (omega arith)
      go (suc k) l h = (k, omega (arith, length-append w r), rw (whole, append_assoc v (operator o ∷ w) r, h, operator_stands joins o (w ++ r) j, next_is.complete w b p r s, is) refl)

  -- reading goes no further where no operator of the sort stands
  more_stops : (k : ℕ) (x : Expr) (r : List Symbol) → behind_operator joins r ≡ None → read_more joins next k x r ≡ Some (x, r)
  more_stops zero x r s = refl
  more_stops (suc k) x r s = rw s refl

  -- chains are what is read as chains
  chain_exact : Exact (either tight joins) (Chain joins First Next) (read_chain joins first next)
  chain_exact =
      record {
        sound = λ t p h.
            let w = went (first t) (λ q. read_more joins next (length q.1) q.0 q.1) p h in
            let f = first_is.sound t w.from w.was in
            rw f.1 (more_sound (length w.from.1) w.from.0 w.from.1 f.0 p (chain_one f.2) w.is);
        complete = λ u x d r s.
            let n = neither tight joins r s in
            let f = chain_goes_on d r n.0 in
            f.2 ∙ more_stops f.0 x r n.1;
      }

-- ---- the operators that bind as tight

-- what is so of all operators is so of each
each : (p : BinaryOp → Bool)
    → p power && (p times && (p over && (p add && (p subtract && (p concat && (p less && (p less_equal && (p equal && (p not_equal && (p greater && (p greater_equal && (p conjunction && (p disjunction && (p equivalence && p nonequivalence)))))))))))))) ≡ true
    → (o : BinaryOp) → p o ≡ true
each p h power = grind arith
each p h times = grind arith
each p h over = grind arith
each p h add = grind arith
each p h subtract = grind arith
each p h concat = grind arith
each p h less = grind arith
each p h less_equal = grind arith
each p h equal = grind arith
each p h not_equal = grind arith
each p h greater = grind arith
each p h greater_equal = grind arith
each p h conjunction = grind arith
each p h disjunction = grind arith
each p h equivalence = grind arith
each p h nonequivalence = grind arith

-- an operator that is not both, and is the one, isn't the other
not_both : (a b : Bool) → not (a && b) ≡ true → a ≡ true → b ≡ false
not_both true false h e = refl
not_both true true h e = absurd cc
not_both false b h e = absurd cc

abbrev up_to_product : BinaryOp → Bool
up_to_product = either is_power is_product

abbrev up_to_sum : BinaryOp → Bool
up_to_sum = either up_to_product is_sum

abbrev up_to_concat : BinaryOp → Bool
up_to_concat = either up_to_sum is_concat

abbrev up_to_relation : BinaryOp → Bool
up_to_relation = either up_to_concat is_relation

abbrev up_to_conjunction : BinaryOp → Bool
up_to_conjunction = either up_to_relation is_conjunction

abbrev up_to_disjunction : BinaryOp → Bool
up_to_disjunction = either up_to_conjunction is_disjunction

abbrev up_to_equivalence : BinaryOp → Bool
up_to_equivalence = either up_to_disjunction is_equivalence

-- ---- rule by rule

-- what is read as a factor is one
factor_sound : (t : List Symbol) (p : Expr × List Symbol) → read_factor t ≡ Some p → Front (Factor IsOperand) t p
unfolding read_factor
factor_sound (operand x ∷ operator o ∷ t) p h = go (is_power o) refl h (factor_sound t)
  where
    go : (b : Bool) → is_power o ≡ b → (if b then option_map (λ (q : Expr × List Symbol). (binary o x q.0, q.1)) (read_factor t) else Some (x, operator o ∷ t)) ≡ Some p
        → ((q : Expr × List Symbol) → read_factor t ≡ Some q → Front (Factor IsOperand) t q) → Front (Factor IsOperand) (operand x ∷ operator o ∷ t) p
    go true is h next =
        let m = mapped (read_factor t) (λ (q : Expr × List Symbol). (binary o x q.0, q.1)) p h in
        let f = next m.from m.was in
        let e = is_the_power o is in
        subst (λ (q : Expr × List Symbol). Front (Factor IsOperand) (operand x ∷ operator o ∷ t) q) m.is
        (operand x ∷ operator o ∷ f.0, ap (λ (v : List Symbol). operand x ∷ operator o ∷ v) f.1, factor_power {u = operand x ∷ []} (ap (λ (c : BinaryOp). operand x ∷ operator c ∷ f.0) e) refl f.2 (ap (λ (c : BinaryOp). binary c x m.from.0) e))
    go false is h next = subst (λ (q : Expr × List Symbol). Front (Factor IsOperand) (operand x ∷ operator o ∷ t) q) (same_Some _ _ h) (operand x ∷ [], refl, factor_one refl)
factor_sound (operand x ∷ t) p h = subst (λ (q : Expr × List Symbol). Front (Factor IsOperand) (operand x ∷ t) q) (same_Some _ _ h) (operand x ∷ [], refl, factor_one refl)
factor_sound [] p h = absurd cc
factor_sound (s ∷ t) p h = absurd cc

-- a factor is read
factor_complete : (u : List Symbol) (x : Expr) → Factor IsOperand u x → (r : List Symbol) → behind_operator is_power r ≡ None → read_factor (u ++ r) ≡ Some (x, r)
unfolding read_factor
factor_complete u x (factor_one e) r s = ap (λ w. read_factor (w ++ r)) e ∙ factor_is x r ∙ ap (power_at x r) s
factor_complete u x (factor_power {u = v} {v = w} {a = a} {b = b} whole e d is) r s = rw (whole, append_assoc v (operator power ∷ w) r, e, factor_complete w b d r s, is) refl

-- factors
factor_exact : Exact is_power (Factor IsOperand) read_factor
factor_exact = record { sound = factor_sound; complete = factor_complete }

-- terms
term_exact : Exact up_to_product (Term IsOperand) read_term
unfolding read_term
term_exact = chain_exact is_product is_power (Factor IsOperand) (Factor IsOperand) read_factor read_factor factor_exact factor_exact (λ o. not_both _ _ (each (λ o. not (is_product o && is_power o)) refl o))

-- where a term is read, no sign stands first
no_sign : (t : List Symbol) (p : Expr × List Symbol) → read_term t ≡ Some p → behind_operator is_sum t ≡ None
unfolding read_term read_factor
no_sign (operator o ∷ t) p h = absurd cc
no_sign [] p h = refl
no_sign (s ∷ t) p h = refl

-- + and - are written as their signs
sign_is : (o : BinaryOp) → is_sum o ≡ true → (sign_of o ≢ negation) × (operator o ≡ sign_symbol (sign_of o))
sign_is add h = (λ e. cc, refl)
sign_is subtract h = (λ e. cc, refl)
sign_is o h = absurd cc

-- what is read as a term, or a sign and a term, is one
signed_sound : (t : List Symbol) (p : Expr × List Symbol) → read_signed t ≡ Some p → Front (Signed IsOperand) t p
unfolding read_signed
signed_sound t p h = go (behind_operator is_sum t) refl h
  where
    go : (o : Option (BinaryOp × List Symbol)) → behind_operator is_sum t ≡ o → signed_at t o ≡ Some p → Front (Signed IsOperand) t p
    go None k h = let f = term_exact.sound t p h in (f.0, f.1, signed_none f.2)
    go (Some o) k h =
        let m = mapped (read_term o.1) (λ q. (unary (sign_of o.0) q.0, q.1)) p h in
        let f = term_exact.sound o.1 m.from m.was in
        let stands = operator_found is_sum t o k in
        let sign = sign_is o.0 stands.1 in
        let same : t ≡ sign_symbol (sign_of o.0) ∷ (f.0 ++ m.from.1) = stands.0 ∙ ap (λ (s : Symbol). s ∷ o.1) sign.1 ∙ ap (λ (v : List Symbol). sign_symbol (sign_of o.0) ∷ v) f.1 in
        subst (λ (q : Expr × List Symbol). Front (Signed IsOperand) t q) m.is (sign_symbol (sign_of o.0) ∷ f.0, same, signed_by (sign_of o.0) sign.0 refl f.2 refl)

-- a term with a sign, or none, is read
signed_complete : (u : List Symbol) (x : Expr) → Signed IsOperand u x → (r : List Symbol) → behind_operator up_to_product r ≡ None → read_signed (u ++ r) ≡ Some (x, r)
unfolding read_signed
signed_complete u x (signed_none d) r s = let t = term_exact.complete u x d r s in ap (signed_at (u ++ r)) (no_sign (u ++ r) (x, r) t) ∙ t
signed_complete u x (signed_by {u = v} {a = a} plus n whole d is) r s = rw (whole, term_exact.complete v a d r s, is) refl
signed_complete u x (signed_by {u = v} {a = a} minus n whole d is) r s = rw (whole, term_exact.complete v a d r s, is) refl
signed_complete u x (signed_by {u = v} {a = a} negation n whole d is) r s = absurd (n refl)

-- sums
sum_exact : Exact up_to_sum (Sum IsOperand) read_sum
unfolding read_sum
sum_exact =
    chain_exact is_sum up_to_product (Signed IsOperand) (Term IsOperand) read_signed read_term (record { sound = signed_sound; complete = signed_complete }) term_exact
    (λ o. not_both _ _ (each (λ o. not (is_sum o && up_to_product o)) refl o))

-- concatenations
concatenation_exact : Exact up_to_concat (Concatenation IsOperand) read_concatenation
unfolding read_concatenation
concatenation_exact = chain_exact is_concat up_to_sum (Sum IsOperand) (Sum IsOperand) read_sum read_sum sum_exact sum_exact (λ o. not_both _ _ (each (λ o. not (is_concat o && up_to_sum o)) refl o))

-- what is read as a relation is one
relation_sound : (t : List Symbol) (p : Expr × List Symbol) → read_relation t ≡ Some p → Front (Relation IsOperand) t p
unfolding read_relation
relation_sound t p h =
    let w = went (read_concatenation t) (λ q. related q.0 q.1 (behind_operator is_relation q.1)) p h in
    let f = concatenation_exact.sound t w.from w.was in
    go w.from.0 w.from.1 f.0 f.1 f.2 (behind_operator is_relation w.from.1) refl w.is
  where
    go : (x : Expr) (r u : List Symbol) → t ≡ u ++ r → Concatenation IsOperand u x → (o : Option (BinaryOp × List Symbol)) → behind_operator is_relation r ≡ o → related x r o ≡ Some p → Front (Relation IsOperand) t p
    go x r u e d None k h = subst (λ (q : Expr × List Symbol). Front (Relation IsOperand) t q) (same_Some _ _ h) (u, e, relation_one d)
    go x r u e d (Some o) k h =
        let m = mapped (read_concatenation o.1) (λ q. (binary o.0 x q.0, q.1)) p h in
        let f = concatenation_exact.sound o.1 m.from m.was in
        let stands = operator_found is_relation r o k in
        let same : t ≡ (u ++ operator o.0 ∷ f.0) ++ m.from.1 =
        e ∙ ap (λ (v : List Symbol). u ++ v) (stands.0 ∙ ap (λ (v : List Symbol). operator o.0 ∷ v) f.1) ∙ sym (append_assoc u (operator o.0 ∷ f.0) m.from.1) in
        subst (λ (q : Expr × List Symbol). Front (Relation IsOperand) t q) m.is (u ++ operator o.0 ∷ f.0, same, relation_two o.0 refl stands.1 d f.2 refl)

-- a relation is read
relation_complete : (u : List Symbol) (x : Expr) → Relation IsOperand u x → (r : List Symbol) → behind_operator up_to_relation r ≡ None → read_relation (u ++ r) ≡ Some (x, r)
unfolding read_relation
relation_complete u x (relation_one d) r s = let n = neither up_to_concat is_relation r s in rw (concatenation_exact.complete u x d r n.0, n.1) refl
relation_complete u x (relation_two {u = v} {v = w} {a = a} {b = b} o whole j d p is) r s =
    let n = neither up_to_concat is_relation r s in
    let apart = not_both _ _ (each (λ o. not (is_relation o && up_to_concat o)) refl o) j in
    let left = concatenation_exact.complete v a d (operator o ∷ (w ++ r)) (operator_fails up_to_concat o (w ++ r) apart) in
    rw (whole, append_assoc v (operator o ∷ w) r, left, operator_stands is_relation o (w ++ r) j, concatenation_exact.complete w b p r n.0, is) refl

-- where a relation is read, no .NOT. stands first
no_not : (t : List Symbol) (p : Expr × List Symbol) → read_relation t ≡ Some p → behind_not t ≡ None
unfolding read_relation read_concatenation read_sum read_signed read_term read_factor
no_not (not_sign ∷ t) p h = absurd cc
no_not [] p h = refl
no_not (s ∷ t) p h = refl

-- .NOT. that is found stands at the front
not_found : (t r : List Symbol) → behind_not t ≡ Some r → t ≡ not_sign ∷ r
not_found (not_sign ∷ t) r h = ap (λ (v : List Symbol). not_sign ∷ v) (same_Some _ _ h)
not_found [] r h = absurd cc
not_found (s ∷ t) r h = absurd cc

-- what is read as a relation, or .NOT. and a relation, is one
negation_sound : (t : List Symbol) (p : Expr × List Symbol) → read_negation t ≡ Some p → Front (Negation IsOperand) t p
unfolding read_negation
negation_sound t p h = go (behind_not t) refl h
  where
    go : (o : Option (List Symbol)) → behind_not t ≡ o → negated_at t o ≡ Some p → Front (Negation IsOperand) t p
    go None k h = let f = relation_sound t p h in (f.0, f.1, negation_none f.2)
    go (Some r) k h =
        let m = mapped (read_relation r) (λ q. (unary negation q.0, q.1)) p h in
        let f = relation_sound r m.from m.was in
        let same : t ≡ not_sign ∷ (f.0 ++ m.from.1) = not_found t r k ∙ ap (λ (v : List Symbol). not_sign ∷ v) f.1 in
        subst (λ (q : Expr × List Symbol). Front (Negation IsOperand) t q) m.is (not_sign ∷ f.0, same, negation_by refl f.2 refl)

-- a relation with .NOT., or without, is read
negation_complete : (u : List Symbol) (x : Expr) → Negation IsOperand u x → (r : List Symbol) → behind_operator up_to_relation r ≡ None → read_negation (u ++ r) ≡ Some (x, r)
unfolding read_negation
negation_complete u x (negation_none d) r s = let t = relation_complete u x d r s in ap (negated_at (u ++ r)) (no_not (u ++ r) (x, r) t) ∙ t
negation_complete u x (negation_by {u = v} {a = a} whole d is) r s = rw (whole, relation_complete v a d r s, is) refl

-- relations with .NOT., or without
negation_exact : Exact up_to_relation (Negation IsOperand) read_negation
negation_exact = record { sound = negation_sound; complete = negation_complete }

-- conjunctions
conjunction_exact : Exact up_to_conjunction (Conjunction IsOperand) read_conjunction
unfolding read_conjunction
conjunction_exact =
    chain_exact is_conjunction up_to_relation (Negation IsOperand) (Negation IsOperand) read_negation read_negation negation_exact negation_exact
    (λ o. not_both _ _ (each (λ o. not (is_conjunction o && up_to_relation o)) refl o))

-- disjunctions
disjunction_exact : Exact up_to_disjunction (Disjunction IsOperand) read_disjunction
unfolding read_disjunction
disjunction_exact =
    chain_exact is_disjunction up_to_conjunction (Conjunction IsOperand) (Conjunction IsOperand) read_conjunction read_conjunction conjunction_exact conjunction_exact
    (λ o. not_both _ _ (each (λ o. not (is_disjunction o && up_to_conjunction o)) refl o))

-- expressions
equivalence_exact : Exact up_to_equivalence (Equivalence IsOperand) read_equivalence
unfolding read_equivalence
equivalence_exact =
    chain_exact is_equivalence up_to_disjunction (Disjunction IsOperand) (Disjunction IsOperand) read_disjunction read_disjunction disjunction_exact disjunction_exact
    (λ o. not_both _ _ (each (λ o. not (is_equivalence o && up_to_disjunction o)) refl o))

-- ---- all symbols

-- what is grouped is an expression of operands
pub group_found : (ts : List Symbol) (x : Expr) → group ts ≡ Some x → Equivalence IsOperand ts x
unfolding group
group_found ts x h =
    let w = went (read_equivalence ts) ended x h in
    go w.from.0 w.from.1 w.is (equivalence_exact.sound ts w.from w.was)
  where
    go : (y : Expr) (r : List Symbol) → ended (y, r) ≡ Some x → Front (Equivalence IsOperand) ts (y, r) → Equivalence IsOperand ts x
    go y [] k f = rw (← same_Some _ _ k, f.1, append-nil) f.2
    go y (c ∷ r) k f = absurd cc

-- an expression of operands is what they are grouped to
pub group_only : (ts : List Symbol) (x : Expr) → Equivalence IsOperand ts x → group ts ≡ Some x
unfolding group
group_only ts x d =
    let all : read_equivalence ts ≡ Some (x, []) = ap read_equivalence (sym (append-nil ts)) ∙ equivalence_exact.complete ts x d [] refl in
    rw all refl

-- one symbol is grouped where it is an operand
abbrev pub tree_alone : Symbol → Option Expr
tree_alone (operand x) = Some x
tree_alone _ = None

group_one : (s : Symbol) → group (s ∷ []) ≡ tree_alone s
unfolding group read_equivalence read_disjunction read_conjunction read_negation read_relation read_concatenation read_sum read_signed read_term read_factor
group_one (operator add) = refl
group_one (operator subtract) = refl
group_one (operator o) = refl
group_one s = refl

pub one_grouped : (symbols before : List code.Symbol) (s : code.Symbol) → symbols ≡ before ++ s ∷ [] → length symbols ≡ 1 → group (map grammar_symbol symbols) ≡ tree_alone (grammar_symbol s)
one_grouped symbols [] s is one = ap (λ w. group (map grammar_symbol w)) is ∙ group_one (grammar_symbol s)
one_grouped symbols (b ∷ before) s is one = absurd (omega (arith, ap length is, length-append before (s ∷ [])))

-- one symbol alone is built as it is grouped
built_one : (s : Symbol) → build (s ∷ []) ≡ group (s ∷ [])
unfolding build
built_one (operand x) = refl
built_one alternate = sym (group_one alternate)
built_one (operator add) = refl
built_one (operator subtract) = refl
built_one (operator o) = sym (group_one (operator o))
built_one not_sign = refl
built_one opening = sym (group_one opening)
built_one closing = sym (group_one closing)
built_one comma = sym (group_one comma)
built_one colon = sym (group_one colon)

pub one_built : (symbols : List code.Symbol) → length symbols ≡ 1 → build (map grammar_symbol symbols) ≡ group (map grammar_symbol symbols)
one_built [] one = absurd (omega (arith, one))
one_built (s ∷ []) one = built_one (grammar_symbol s)
one_built (s ∷ t ∷ ts) one = absurd (omega (arith, one))
